use Rattle.std.proofs.Common.{◌≡◌, ◌++◌, map, drop}
use Rattle.deputy_types.specs.UnitLayout as layout
use Rattle.deputy_rules.specs.Heads.{signature_of}
use Rattle.rules_heads.proofs.texts.functions_of.Given as goal

abbrev pub invariant-loop-item : goal.invariant-loop-item
invariant-loop-item l = l.functions ++ map (signature_of l.table) (layout.functions_of (drop l.item-index l.items)) ≡ map (signature_of l.table) (layout.functions_of l.items)
