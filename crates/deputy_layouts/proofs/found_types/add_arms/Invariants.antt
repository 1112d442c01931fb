use Rattle.std.proofs.Common.{◌≡◌, drop}
use Rattle.deputy_types.specs.Found.{with_arms}
use Rattle.deputy_layouts.proofs.found_types.add_arms.Given as goal

abbrev pub invariant-loop-arm : goal.invariant-loop-arm
invariant-loop-arm l = with_arms l.structs l.elements (drop l.arm-index l.arms) ≡ with_arms l.fn.structs l.fn.elements l.fn.arms
