use Rattle.layout_laws.proofs.ImageFits.{image_fits}
use Rattle.layout_laws.proofs.load_image.each_block_fits_at_first.Goals as goal

pub returns : goal.returns
returns c = image_fits
