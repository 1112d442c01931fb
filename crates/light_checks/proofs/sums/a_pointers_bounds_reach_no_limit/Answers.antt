use Rattle.light_checks.proofs.PointerBounds.{bounds_free}
use Rattle.light_checks.proofs.sums.a_pointers_bounds_reach_no_limit.Goals as goal

pub returns : goal.returns
returns c = λ u t f r line b e h s is hands low high. bounds_free u t f r line b e h s is hands low high
