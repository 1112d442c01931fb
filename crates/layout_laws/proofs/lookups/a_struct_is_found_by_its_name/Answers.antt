use Rattle.layout_laws.proofs.StructNumbers.{structs_found}
use Rattle.layout_laws.proofs.lookups.a_struct_is_found_by_its_name.Goals as goal

pub returns : goal.returns
returns c = structs_found
