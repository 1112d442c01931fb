use Rattle.std.proofs.Common.{rules, ◌≡◌, ◌<◌, ◌-◌, arith}
use Rattle.driver_machine.proofs.RowSteps.{one_answers, one_stands, stands_under}
use Rattle.driver_machine.proofs.TaskKept.{answered_waits}
use Rattle.driver_machine.proofs.TaskSteps.{idle_answer}
use Rattle.driver_machine.proofs.task.answer_at.Goals as goal

pub returns-then-live-eq0-clause-answered : goal.returns-then-live-eq0-clause-answered
returns-then-live-eq0-clause-answered c =
    let none : c.args.live ≡ 0 = search rules in
    idle_answer c.args.unit.now c.args.frames.now c.args.live c.args.reply none

pub answer_frame-requires-clause-stands : goal.answer_frame-requires-clause-stands
answer_frame-requires-clause-stands c =
    let some : 0 < c.args.live = search rules in
    stands_under c.args.unit.now c.args.frames.now c.args.frames.now c.args.live (c.args.live - 1) (omega (arith, some))
    (omega (arith, c.requires.room, c.requires.few, some)) c.requires.stand

pub returns-clause-answered : goal.returns-clause-answered
returns-clause-answered c =
    let some : 0 < c.args.live = search rules in
    one_answers c.args.unit.now c.args.frames.now c.answer_frame.new.frames c.args.live (c.args.live - 1) (omega (arith, some))
    (omega (arith, c.requires.room, c.requires.few, some)) c.args.reply c.answer_frame.ensures.answers

pub returns-clause-stand : goal.returns-clause-stand
returns-clause-stand c =
    let some : 0 < c.args.live = search rules in
    one_stands c.args.unit.now c.args.frames.now c.answer_frame.new.frames c.args.live (c.args.live - 1) (omega (arith, some))
    (omega (arith, c.requires.room, c.requires.few, some)) c.answer_frame.ensures.answers.change c.requires.stand

pub returns-clause-wait : goal.returns-clause-wait
returns-clause-wait c =
    let some : 0 < c.args.live = search rules in
    answered_waits _ _ c.args.reply c.requires.wait
    (one_answers c.args.unit.now c.args.frames.now c.answer_frame.new.frames c.args.live (c.args.live - 1) (omega (arith, some))
    (omega (arith, c.requires.room, c.requires.few, some)) c.args.reply c.answer_frame.ensures.answers)
