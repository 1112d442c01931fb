use Rattle.std.proofs.Common.{◌≡◌, drop, []}
use Rattle.deputy_types.specs.StructLayout.{tags_of}
use Rattle.deputy_layouts.proofs.struct_siblings.tags_of.Given as goal

abbrev pub invariant-loop-field : goal.invariant-loop-field
invariant-loop-field l = tags_of l.tags (drop l.field-index l.fields) ≡ tags_of [] l.fields
