use Rattle.std.proofs.Common.{sym, ◌∙◌}
use Rattle.world.proofs.Fronts.{next-work-over, next-work}
use Rattle.world.proofs.working.next_work.Goals as goal

pub returns-then-is_over : goal.returns-then-is_over
returns-then-is_over c = next-work-over c.args.ground.now (sym c.is_over.ensures ∙ c.if-is_over.true)

pub returns : goal.returns
returns c = next-work c.args.ground.now c.front.result (sym c.is_over.ensures ∙ c.if-is_over.false) c.front.ensures
