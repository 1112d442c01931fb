use Rattle.sd_base.proofs.NetLists.{net_of-Without}
use Rattle.sd_base.proofs.laws.others_net_lists_stay.Goals as goal

pub returns : goal.returns
returns c = λ h owner other apart. net_of-Without h owner other apart
