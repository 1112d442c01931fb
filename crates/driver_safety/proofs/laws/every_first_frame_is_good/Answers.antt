use Rattle.driver_safety.proofs.calls.Entering.{each_first_frame}
use Rattle.driver_safety.proofs.laws.every_first_frame_is_good.Goals as goal

pub returns : goal.returns
returns c = each_first_frame
