use Rattle.driver_safety.proofs.steps.Asks.{each_handler}
use Rattle.driver_safety.proofs.laws.every_handler_takes_a_number.Goals as goal

pub returns : goal.returns
returns c = each_handler
