use Rattle.driver_safety.proofs.assignments.Zeros.{each_zero}
use Rattle.driver_safety.proofs.laws.every_zero_is_sound.Goals as goal

pub returns : goal.returns
returns c = each_zero
