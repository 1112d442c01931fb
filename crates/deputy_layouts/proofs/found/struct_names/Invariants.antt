use Rattle.std.proofs.Common.{◌≡◌, drop, []}
use Rattle.deputy_types.specs.Found.{struct_names}
use Rattle.deputy_layouts.proofs.found.struct_names.Given as goal

abbrev pub invariant-loop-item : goal.invariant-loop-item
invariant-loop-item l = struct_names (drop l.item-index l.items) l.names ≡ struct_names l.fn.items []
