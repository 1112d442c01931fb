use Rattle.layout_laws.proofs.ElementLaws.{strings_found}
use Rattle.layout_laws.proofs.lookups.a_string_is_found_by_its_place.Goals as goal

pub returns : goal.returns
returns c = strings_found
