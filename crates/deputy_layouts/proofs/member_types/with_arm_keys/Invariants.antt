use Rattle.std.proofs.Common.{◌≡◌, ◌++◌, drop}
use Rattle.deputy_types.specs.MemberTypes.{arm_keys}
use Rattle.deputy_layouts.proofs.member_types.with_arm_keys.Given as goal

abbrev pub invariant-loop-arm : goal.invariant-loop-arm
invariant-loop-arm l = l.keys ++ arm_keys l.types (drop l.arm-index l.arms) ≡ l.fn.keys ++ arm_keys l.types l.arms
