use Rattle.driver_safety.proofs.steps.Starting.{each_start}
use Rattle.driver_safety.proofs.laws.every_start_is_good.Goals as goal

pub returns : goal.returns
returns c = each_start
