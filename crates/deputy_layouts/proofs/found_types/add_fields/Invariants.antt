use Rattle.std.proofs.Common.{◌≡◌, drop}
use Rattle.deputy_types.specs.Found.{with_fields}
use Rattle.deputy_layouts.proofs.found_types.add_fields.Given as goal

abbrev pub invariant-loop-field : goal.invariant-loop-field
invariant-loop-field l = with_fields l.structs l.elements (drop l.field-index l.fields) ≡ with_fields l.fn.structs l.fn.elements l.fn.fields
