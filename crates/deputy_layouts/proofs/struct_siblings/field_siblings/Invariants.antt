use Rattle.std.proofs.Common.{◌≡◌, drop}
use Rattle.deputy_types.specs.StructLayout.{field_siblings}
use Rattle.deputy_layouts.proofs.struct_siblings.field_siblings.Given as goal

abbrev pub invariant-loop-field : goal.invariant-loop-field
invariant-loop-field l = field_siblings l.types l.tags l.part l.siblings (drop l.field-index l.fields) ≡ field_siblings l.types l.tags 0 l.fn.siblings l.fields
