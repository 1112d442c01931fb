use Rattle.share_table.proofs.Masked.{none_masked}
use Rattle.share_table.proofs.masks.Masks.new.Goals as goal

pub returns : goal.returns
returns c = none_masked
