use Rattle.std.proofs.Common.{◌≡◌, [], drop}
use Rattle.deputy_rules.specs.Functions as spec
use Rattle.rules_stmt.proofs.unit.check_items.Given as goal

abbrev pub invariant-loop-item : goal.invariant-loop-item
invariant-loop-item l = spec.check_items l.text (drop l.item-index l.text.items) l.done ≡ spec.check_items l.text l.text.items []
