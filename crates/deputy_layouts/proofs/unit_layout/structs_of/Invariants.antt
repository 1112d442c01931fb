use Rattle.std.proofs.Common.{◌≡◌, ◌≤◌, drop, length}
use Rattle.deputy_types.specs.UnitLayout.{structs_of, no_structs}
use Rattle.deputy_layouts.proofs.unit_layout.structs_of.Given as goal

abbrev pub invariant-loop-item : goal.invariant-loop-item
invariant-loop-item l = record {
  outcome : structs_of l.types l.extents l.structs (drop l.item-index l.items) ≡ structs_of l.fn.types l.fn.extents no_structs l.fn.items;
  few : length l.structs.shapes ≤ 256;
}
