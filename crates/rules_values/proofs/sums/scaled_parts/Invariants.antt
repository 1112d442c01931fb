use Rattle.std.proofs.Common.{◌≡◌, map, take}
use Rattle.deputy_rules.specs.Sums as spec
use Rattle.rules_values.proofs.sums.scaled_parts.Given as goal

abbrev pub invariant-loop-part : goal.invariant-loop-part
invariant-loop-part l = l.multiples ≡ map (spec.times l.n) (take l.part-index l.parts)
