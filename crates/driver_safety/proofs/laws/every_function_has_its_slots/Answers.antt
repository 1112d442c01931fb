use Rattle.driver_safety.proofs.declarations.Declared.{each_slots}
use Rattle.driver_safety.proofs.laws.every_function_has_its_slots.Goals as goal

pub returns : goal.returns
returns c = each_slots
