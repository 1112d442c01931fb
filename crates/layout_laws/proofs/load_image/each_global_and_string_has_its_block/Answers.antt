use Rattle.layout_laws.proofs.ImageLaws.{has_image}
use Rattle.layout_laws.proofs.load_image.each_global_and_string_has_its_block.Goals as goal

pub returns : goal.returns
returns c = has_image
