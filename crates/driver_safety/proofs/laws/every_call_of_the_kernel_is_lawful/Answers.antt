use Rattle.driver_safety.proofs.steps.Asks.{each_call}
use Rattle.driver_safety.proofs.laws.every_call_of_the_kernel_is_lawful.Goals as goal

pub returns : goal.returns
returns c = each_call
