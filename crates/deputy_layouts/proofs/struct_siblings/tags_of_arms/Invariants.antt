use Rattle.std.proofs.Common.{◌≡◌, drop}
use Rattle.deputy_types.specs.StructLayout.{tags_of_arms}
use Rattle.deputy_layouts.proofs.struct_siblings.tags_of_arms.Given as goal

abbrev pub invariant-loop-arm : goal.invariant-loop-arm
invariant-loop-arm l = tags_of_arms l.tags (drop l.arm-index l.arms) ≡ tags_of_arms l.fn.tags l.arms
