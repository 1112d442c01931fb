use Rattle.std.proofs.Common.{◌≡◌, ◌++◌, drop}
use Rattle.deputy_types.specs.MemberTypes.{member_keys}
use Rattle.deputy_layouts.proofs.member_types.member_keys.Given as goal

abbrev pub invariant-loop-field : goal.invariant-loop-field
invariant-loop-field l = l.keys ++ member_keys l.types (drop l.field-index l.fields) ≡ member_keys l.types l.fields
