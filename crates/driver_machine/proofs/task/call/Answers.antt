use Rattle.std.proofs.Common.{rules, ◌≤◌, ◌<◌, refl}
use Rattle.driver_machine.proofs.TaskSteps.{runnable_at, call_full, call_made, call_stands}
use Rattle.driver_machine.proofs.task.call.Goals as goal

pub returns-then-live-ge-FRAMES-clause-comes : goal.returns-then-live-ge-FRAMES-clause-comes
returns-then-live-ge-FRAMES-clause-comes c = λ m.
    let full : 64 ≤ c.args.live.now = search rules in (
      call_full c.args.unit.now c.args.frames.now c.args.live.now c.args.line c.args.number c.args.values.now c.in-Some.f.now c.in-Some.ensures
          c.requires.room c.requires.few full m,
      refl,
      refl,
    )

pub enter-requires-clause-slots : goal.enter-requires-clause-slots
enter-requires-clause-slots c =
    (runnable_at c.args.unit.now.functions c.args.number c.in-Some.f.now c.requires.runnable c.in-Some.ensures).slots

pub returns-clause-comes : goal.returns-clause-comes
returns-clause-comes c = λ m.
    let less : c.args.live.now < 64 = search rules in
    call_made c.args.unit.now c.args.frames.now c.args.live.now c.args.line c.args.number c.args.values.now c.in-Some.f.now c.enter.new.self
    c.in-Some.ensures c.requires.room less c.enter.ensures.entered m

pub returns-clause-stand : goal.returns-clause-stand
returns-clause-stand c =
    let less : c.args.live.now < 64 = search rules in
    call_stands c.args.unit.now c.args.frames.now c.args.live.now c.enter.new.self c.requires.room less c.enter.ensures.stands c.requires.stand
