use Rattle.std.proofs.Common.{sym, ◌∙◌}
use Rattle.world.proofs.Fronts.{next-timer-over, next-timer}
use Rattle.world.proofs.clock.next_timer.Goals as goal

pub returns-then-is_over : goal.returns-then-is_over
returns-then-is_over c = next-timer-over c.args.ground.now c.args.moment (sym c.is_over.ensures ∙ c.if-is_over.true)

pub returns : goal.returns
returns c = next-timer c.args.ground.now c.args.moment c.next_due.result (sym c.is_over.ensures ∙ c.if-is_over.false) c.next_due.ensures
