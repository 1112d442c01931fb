use Rattle.layout_laws.proofs.ElementLaws.{has_elements}
use Rattle.layout_laws.proofs.structs.each_element_has_the_bytes_of_its_shape.Goals as goal

pub returns : goal.returns
returns c = has_elements
