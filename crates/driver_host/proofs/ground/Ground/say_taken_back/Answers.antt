use Rattle.std.proofs.Common.{refl}
use Rattle.driver_host.proofs.Grounds.{told-undone, carries-then}
use Rattle.driver_host.proofs.ground.Ground.say_taken_back.Goals as goal

pub returns : goal.returns
returns g c = carries-then (told-undone _ _ _ _ _ c.args.owner _ c.undone.ensures refl refl c.say_undone.ensures) c.show.ensures
