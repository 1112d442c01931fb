use Rattle.std.proofs.Common.{refl}
use Rattle.driver_host.proofs.Grounds.{shows}
use Rattle.driver_host.proofs.ground.Ground.show.Goals as goal

pub returns : goal.returns
returns g c = shows _ _ _ _ _ _ c.tables.ensures refl refl c.say_tables.ensures
