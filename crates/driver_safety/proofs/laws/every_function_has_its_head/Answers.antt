use Rattle.driver_safety.proofs.declarations.Declared.{each_head}
use Rattle.driver_safety.proofs.laws.every_function_has_its_head.Goals as goal

pub returns : goal.returns
returns c = each_head
