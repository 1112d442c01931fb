use Rattle.std.proofs.Common.{refl}
use Rattle.world_core.specs.Showing.{show}
use Rattle.world.proofs.Standing.{leads-ground, beside-show}
use Rattle.world.proofs.live.Live.show.Goals as goal

pub returns : goal.returns
returns g c = leads-ground _ _ _ show beside-show refl c.show.ensures
