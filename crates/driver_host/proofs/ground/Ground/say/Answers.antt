use Rattle.std.proofs.Common.{refl}
use Rattle.driver_host.proofs.Grounds.{carries-say}
use Rattle.driver_host.proofs.ground.Ground.say.Goals as goal

pub returns : goal.returns
returns g c = λ names. carries-say _ _ _ _ names _ refl refl c.say.ensures
