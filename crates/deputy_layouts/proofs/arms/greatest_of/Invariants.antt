use Rattle.std.proofs.Common.{◌≡◌, drop}
use Rattle.deputy_types.specs.StructLayout.{arms_extent, union_extent}
use Rattle.deputy_layouts.proofs.arms.greatest_of.Given as goal

abbrev pub invariant-loop-arm : goal.invariant-loop-arm
invariant-loop-arm l = arms_extent l.types l.greatest (drop l.arm-index l.arms) ≡ union_extent l.types l.arms
