use Rattle.driver_safety.proofs.calls.Calling.{each_call}
use Rattle.driver_safety.proofs.laws.every_call_is_sound.Goals as goal

pub returns : goal.returns
returns c = each_call
