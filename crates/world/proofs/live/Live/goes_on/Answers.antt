use Rattle.std.proofs.Common.{sym, ap, ◌∙◌, is_some}
use Rattle.world.proofs.Acting.{ended-runs, still-runs}
use Rattle.world.proofs.live.Live.goes_on.Goals as goal

pub returns-then-is_over : goal.returns-then-is_over
returns-then-is_over c = ended-runs _ _ (sym c.is_over.ensures ∙ c.if-is_over.true)

pub returns : goal.returns
returns c = c.is_some.ensures ∙ ap is_some c.live.ensures ∙ still-runs _ _ (sym c.is_over.ensures ∙ c.if-is_over.false)
