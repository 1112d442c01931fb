use Rattle.std.proofs.Common.{◌≡◌, drop}
use Rattle.deputy_types.specs.StructLayout.{with_arm_siblings}
use Rattle.deputy_layouts.proofs.struct_siblings.with_arm_siblings.Given as goal

abbrev pub invariant-loop-arm : goal.invariant-loop-arm
invariant-loop-arm l = with_arm_siblings l.part l.siblings (drop l.arm-index l.arms) ≡ with_arm_siblings l.part l.fn.siblings l.arms
