use Rattle.layout_laws.proofs.SameExtent.{same_extent}
use Rattle.layout_laws.proofs.struct_laws.a_struct_keeps_its_extent.Goals as goal

pub returns : goal.returns
returns c = same_extent
