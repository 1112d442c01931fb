use Rattle.std.proofs.Common.{◌≡◌, drop}
use Rattle.deputy_types.specs.Found.{found_items}
use Rattle.deputy_layouts.proofs.found.add_items.Given as goal

abbrev pub invariant-loop-item : goal.invariant-loop-item
invariant-loop-item l = found_items l.structs (drop l.item-index l.items) l.found ≡ found_items l.fn.structs l.fn.items l.fn.found
