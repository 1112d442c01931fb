use Rattle.world_core.specs.Clock.{ticks_to}
use Rattle.world.proofs.Standing.{leads-then}
use Rattle.world.proofs.live.Live.tick_to.Goals as goal

pub returns : goal.returns
unfolding ticks_to
returns g c = leads-then c.fire_all.ensures (c.set_clock.ensures _ _)
