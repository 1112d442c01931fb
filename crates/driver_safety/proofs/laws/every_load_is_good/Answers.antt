use Rattle.driver_safety.proofs.memory.Loading.{each_load}
use Rattle.driver_safety.proofs.laws.every_load_is_good.Goals as goal

pub returns : goal.returns
returns c = each_load
