use Rattle.std.proofs.Common.{◌≡◌, drop}
use Rattle.deputy_types.specs.UnitLayout.{with_items, nothing_declared, IsDeclared}
use Rattle.deputy_layouts.proofs.unit_items.with_items.Given as goal

abbrev pub invariant-loop-item : goal.invariant-loop-item
invariant-loop-item l = record {
  outcome : with_items l.types l.ends l.declared (drop l.item-index l.items) ≡ with_items l.fn.types l.fn.ends nothing_declared l.fn.items;
  within : IsDeclared l.declared;
}
