use Rattle.std.proofs.Common.{refl}
use Rattle.driver_host.proofs.Grounds.{carries-devices}
use Rattle.driver_host.proofs.ground.Ground.answer.Goals as goal

pub returns : goal.returns
returns c = λ o names. carries-devices _ _ o names _ refl c.answer.ensures
