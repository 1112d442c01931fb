use Rattle.std.proofs.Common.{◌≡◌, ◌++◌, drop}
use Rattle.deputy_types.specs.MemberTypes.{arm_arrays}
use Rattle.deputy_layouts.proofs.member_types.with_arm_arrays.Given as goal

abbrev pub invariant-loop-arm : goal.invariant-loop-arm
invariant-loop-arm l = l.arrays ++ arm_arrays (drop l._arm-index l.arms) ≡ l.fn.arrays ++ arm_arrays l.arms
