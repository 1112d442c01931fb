use Rattle.std.proofs.Common.{sym, ◌∙◌}
use Rattle.world.proofs.Lines.{next-over, next-masked, next-line}
use Rattle.world.proofs.delivering.next_line.Goals as goal

pub returns-then-is_over : goal.returns-then-is_over
returns-then-is_over c = next-over c.args.ground.now (sym c.is_over.ensures ∙ c.if-is_over.true)

pub returns-in-true : goal.returns-in-true
returns-in-true c = next-masked c.args.ground.now c.is_masked.result c.is_masked.ensures c.in-true.is

pub returns-in-false : goal.returns-in-false
returns-in-false c = next-line c.args.ground.now c.is_masked.result c.least_waiting.result (sym c.is_over.ensures ∙ c.if-is_over.false) c.is_masked.ensures
    c.in-false.is c.least_waiting.ensures
