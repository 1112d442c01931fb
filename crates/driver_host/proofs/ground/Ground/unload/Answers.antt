use Rattle.driver_host.proofs.Grounds.{carries-takes_back}
use Rattle.driver_host.proofs.ground.Ground.unload.Goals as goal

pub returns : goal.returns
returns g c = carries-takes_back _ _ _ _ _ _ c.args.owner _ c.take_back.ensures c.unload.ensures c.say_taken_back.ensures
