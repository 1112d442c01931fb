use Rattle.driver_safety.proofs.declarations.Declared.{each_table}
use Rattle.driver_safety.proofs.laws.every_table_has_its_types.Goals as goal

pub returns : goal.returns
returns c = each_table
