use Rattle.std.proofs.Common.{sym, ◌∙◌}
use Rattle.sd_base.specs.declared.history.Update.TheVariants as update
use Rattle.world_core.specs.Script.{updates}
use Rattle.world.proofs.Composing.{leads-over}
use Rattle.world.proofs.Firing.{clock-set}
use Rattle.world.proofs.live.Live.set_clock.Goals as goal

pub returns-then-is_over : goal.returns-then-is_over
returns-then-is_over c = λ written faults. leads-over (updates 0 (update.Clock c.args.moment)) (sym c.is_over.ensures ∙ c.if-is_over.true)

pub returns : goal.returns
returns c = λ written faults. clock-set _ c.args.moment c.update-clock.new.self _ (sym c.is_over.ensures ∙ c.if-is_over.false) c.update-clock.ensures
