use Rattle.driver_safety.proofs.declarations.GrammarArms.{each_unit_has}
use Rattle.driver_safety.proofs.laws.every_unit_has_arms.Goals as goal

pub returns : goal.returns
returns c = each_unit_has
