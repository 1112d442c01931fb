-- What is left out is not live.
use Rattle.sd_base.proofs.NetLists.{net_of-Without_same}
use Rattle.update_tracker.proofs.laws.nothing_is_left_of_an_owner.Goals as goal

pub returns : goal.returns
returns c = λ h owner. net_of-Without_same h owner
