use Rattle.driver_safety.proofs.calls.Returning.{each_return}
use Rattle.driver_safety.proofs.laws.every_return_is_sound.Goals as goal

pub returns : goal.returns
returns c = each_return
