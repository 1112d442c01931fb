use Rattle.std.proofs.Common.{sym, ◌∙◌}
use Rattle.world.proofs.Orders.{init-none, init-some}
use Rattle.world.proofs.live.Live.begin_init.Goals as goal

pub returns-in-None : goal.returns-in-None
returns-in-None c = λ kept written faults. init-none _ _ (sym c.init_in.ensures ∙ c.in-None.is)

pub returns-in-Some : goal.returns-in-Some
returns-in-Some c = λ kept written faults. init-some _ _ _ (sym c.init_in.ensures ∙ c.in-Some.is) (c.begin.ensures kept written faults)
