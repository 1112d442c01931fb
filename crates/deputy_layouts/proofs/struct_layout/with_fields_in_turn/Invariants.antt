use Rattle.std.proofs.Common.{◌≡◌, drop}
use Rattle.deputy_types.specs.StructLayout.{IsLaying, around, with_fields_in_turn}
use Rattle.deputy_layouts.proofs.struct_layout.with_fields_in_turn.Given as goal

abbrev pub invariant-loop-field : goal.invariant-loop-field
invariant-loop-field l = record {
  same : with_fields_in_turn (around l.at) l.laying (drop l.field-index l.fields) ≡ with_fields_in_turn (around l.at) l.fn.laying l.fields;
  laying : IsLaying l.laying;
}
