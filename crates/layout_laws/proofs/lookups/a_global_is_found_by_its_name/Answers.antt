use Rattle.layout_laws.proofs.GlobalNumbers.{globals_found}
use Rattle.layout_laws.proofs.lookups.a_global_is_found_by_its_name.Goals as goal

pub returns : goal.returns
returns c = globals_found
