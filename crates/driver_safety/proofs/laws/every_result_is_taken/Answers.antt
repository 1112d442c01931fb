use Rattle.driver_safety.proofs.calls.Receiving.{each_result_is_taken}
use Rattle.driver_safety.proofs.laws.every_result_is_taken.Goals as goal

pub returns : goal.returns
returns c = each_result_is_taken
