use Rattle.std.proofs.Common.{◌≡◌, ◌++◌, drop}
use Rattle.deputy_types.specs.MemberTypes.{member_arrays}
use Rattle.deputy_layouts.proofs.member_types.member_arrays.Given as goal

abbrev pub invariant-loop-field : goal.invariant-loop-field
invariant-loop-field l = l.arrays ++ member_arrays (drop l.field-index l.fields) ≡ member_arrays l.fields
