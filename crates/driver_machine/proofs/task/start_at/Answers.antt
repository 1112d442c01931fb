use Rattle.std.proofs.Common.{rules}
use Rattle.driver_machine.proofs.TaskKept.{started_waits}
use Rattle.driver_machine.proofs.TaskSteps.{runnable_at, start_made, start_stands}
use Rattle.driver_machine.proofs.task.start_at.Goals as goal

pub enter-requires-clause-slots : goal.enter-requires-clause-slots
enter-requires-clause-slots c =
    (runnable_at c.args.unit.now.functions c.args.number c.the_function-f.result.now c.requires.runnable c.the_function-f.ensures).slots

pub returns-clause-started : goal.returns-clause-started
returns-clause-started c =
    start_made c.args.unit.now c.args.frames.now c.enter.new.self c.args.number c.args.arguments.now _ c.the_function-f.result.now c.the_function-f.ensures
    c.requires.room c.enter.ensures.entered (search rules)

pub returns-clause-stand : goal.returns-clause-stand
returns-clause-stand c = start_stands c.args.unit.now c.args.frames.now c.enter.new.self c.requires.room c.enter.ensures.stands

pub returns-clause-wait : goal.returns-clause-wait
returns-clause-wait c = started_waits c.args.unit.now c.args.number c.args.arguments.now _
    (start_made c.args.unit.now c.args.frames.now c.enter.new.self c.args.number c.args.arguments.now _ c.the_function-f.result.now c.the_function-f.ensures
    c.requires.room c.enter.ensures.entered (search rules))
