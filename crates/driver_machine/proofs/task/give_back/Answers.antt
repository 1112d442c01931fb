use Rattle.std.proofs.Common.{rules, ◌≡◌, ◌<◌, ◌-◌, refl, arith}
use Rattle.driver_machine.proofs.Activities.{standing_under}
use Rattle.driver_machine.proofs.RowSteps.{caller_stands, one_resumes, one_set, one_stopped}
use Rattle.driver_machine.proofs.TaskSteps.{nothing_below, no_frames, none_standing}
use Rattle.driver_machine.proofs.task.give_back.Goals as goal

pub returns-then-top-eq0-clause-comes : goal.returns-then-top-eq0-clause-comes
returns-then-top-eq0-clause-comes c = λ m.
    let none : c.args.top ≡ 0 = search rules in
    (nothing_below c.args.unit.now c.args.frames.now c.args.top c.args.scalar c.args.value none m, no_frames c.args.unit.now c.args.frames.now, refl)

pub returns-then-top-eq0-clause-stand : goal.returns-then-top-eq0-clause-stand
returns-then-top-eq0-clause-stand c = none_standing c.args.unit.now c.args.frames.now

pub resume_frame-requires-clause-stands : goal.resume_frame-requires-clause-stands
resume_frame-requires-clause-stands c =
    let some : 0 < c.args.top = search rules in
    caller_stands c.args.unit.now c.args.frames.now c.args.live.now c.args.top (c.args.top - 1) c.requires.top (omega (arith, some)) c.requires.stand

pub returns-in-Ok-clause-comes : goal.returns-in-Ok-clause-comes
returns-in-Ok-clause-comes c = λ m.
    let some : 0 < c.args.top = search rules in
    one_resumes c.args.unit.now c.args.frames.now c.resume_frame.new.frames c.args.top (c.args.top - 1) (omega (arith, some))
    (omega (arith, c.requires.room, c.requires.few, c.requires.top)) c.args.scalar c.args.value c.in-Ok.ensures.resumes m

pub returns-in-Ok-clause-stand : goal.returns-in-Ok-clause-stand
returns-in-Ok-clause-stand c =
    let some : 0 < c.args.top = search rules in
    one_set c.args.unit.now c.args.frames.now c.resume_frame.new.frames c.args.top (c.args.top - 1) (omega (arith, some))
    (omega (arith, c.requires.room, c.requires.few, c.requires.top)) c.args.top c.in-Ok.ensures.resumes.change
    (standing_under c.args.unit.now c.args.frames.now c.args.live.now c.args.top c.requires.top c.requires.stand)

pub returns-in-Err-clause-comes : goal.returns-in-Err-clause-comes
returns-in-Err-clause-comes c = λ m.
    let some : 0 < c.args.top = search rules in
    one_stopped c.args.unit.now c.args.frames.now c.resume_frame.new.frames c.args.top (c.args.top - 1) (omega (arith, some))
    (omega (arith, c.requires.room, c.requires.few, c.requires.top)) c.args.live.now c.args.scalar c.args.value c.in-Err.stop c.args.line c.stopped.result
    c.in-Err.ensures.resumes c.requires.line c.stopped.ensures m

pub returns-in-Err-clause-stand : goal.returns-in-Err-clause-stand
returns-in-Err-clause-stand c =
    let some : 0 < c.args.top = search rules in
    one_set c.args.unit.now c.args.frames.now c.resume_frame.new.frames c.args.top (c.args.top - 1) (omega (arith, some))
    (omega (arith, c.requires.room, c.requires.few, c.requires.top)) c.args.live.now c.in-Err.ensures.resumes.change c.requires.stand
