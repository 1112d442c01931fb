use Rattle.std.proofs.Common.{◌∙◌, ap, sym}
use Rattle.std.proofs.lemmas.List.Edits.{map_over_more}
use Rattle.std.specs.Prelude.{slice_set}
use Rattle.driver_machine.specs.declared.task.Task.{Task}
use Rattle.driver_machine.specs.Machines.{dropped}
use Rattle.driver_machine.proofs.machine.drop_rows.Goals as goal

pub loop-task-preserved : goal.loop-task-preserved
loop-task-preserved c =
    ap (slice_set c.loop-task.tasks c.loop-task.task-index) c.drop_of.ensures
    ∙ ap (λ (t : Task). slice_set c.loop-task.tasks c.loop-task.task-index (dropped c.args.owner t)) (sym c.task-item.is)
    ∙ map_over_more (dropped c.args.owner) c.args.tasks.now c.loop-task.tasks c.loop-task.task-index c.task-item.result c.loop-task-test.true
    c.loop-task.invariant c.task-item.is
