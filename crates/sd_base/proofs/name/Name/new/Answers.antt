-- The bytes over the zeros of the new array are padded.
use Rattle.std.proofs.Common.{length, refl, ap}
use Rattle.sd_base.proofs.Padding.{padded-over-zeros}
use Rattle.sd_base.proofs.name.Name.new.Goals as goal

pub invariant_of-result : goal.invariant_of-result
invariant_of-result c = padded-over-zeros 63 _ _ _ (ap length c.copy_from_slice.ensures.after) c.requires refl
