use Rattle.std.proofs.Common.{rules, ◌≡◌, ◌<◌, ◌-◌, sym, ◌∙◌, arith}
use Rattle.driver_machine.proofs.RowSteps.{line_under, stands_under}
use Rattle.driver_machine.proofs.TaskSteps.{idle_line}
use Rattle.driver_machine.proofs.task.line_at.Goals as goal

pub returns-then-live-eq0 : goal.returns-then-live-eq0
returns-then-live-eq0 c =
    let none : c.args.live ≡ 0 = search rules in
    idle_line c.args.unit.now c.args.frames.now c.args.live none

pub line_in-requires-clause-stands : goal.line_in-requires-clause-stands
line_in-requires-clause-stands c =
    let some : 0 < c.args.live = search rules in
    stands_under c.args.unit.now c.args.frames.now c.args.frames.now c.args.live (c.args.live - 1) (omega (arith, some))
    (omega (arith, c.requires.room, c.requires.few, some)) c.requires.stand

pub returns : goal.returns
returns c =
    let some : 0 < c.args.live = search rules in
    c.line_in.ensures ∙ sym (line_under c.args.unit.now c.args.frames.now c.args.frames.now c.args.live (c.args.live - 1) (omega (arith, some))
    (omega (arith, c.requires.room, c.requires.few, some)))
