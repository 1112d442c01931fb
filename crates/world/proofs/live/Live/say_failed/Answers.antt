use Rattle.std.proofs.Common.{refl}
use Rattle.world.proofs.Turns.{says}
use Rattle.world.proofs.live.Live.say_failed.Goals as goal

pub returns : goal.returns
returns g c = says _ _ _ refl c.say.ensures
