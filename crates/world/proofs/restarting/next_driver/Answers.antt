use Rattle.std.proofs.Common.{sym, ◌∙◌}
use Rattle.world.proofs.Due.{next-over, next-driver}
use Rattle.world.proofs.restarting.next_driver.Goals as goal

pub returns-then-is_over : goal.returns-then-is_over
returns-then-is_over c = next-over c.args.run.now (sym c.is_over.ensures ∙ c.if-is_over.true)

pub returns : goal.returns
returns c = next-driver c.args.run.now c.least_due.result (sym c.is_over.ensures ∙ c.if-is_over.false) c.least_due.ensures
