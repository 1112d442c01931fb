use Rattle.std.proofs.Common.{◌≡◌, ◌++◌, drop}
use Rattle.deputy_rules.specs.Functions as spec
use Rattle.rules_heads.proofs.results.shapes_of.Given as goal

abbrev pub invariant-loop-shape : goal.invariant-loop-shape
invariant-loop-shape l = l.found ++ spec.shapes_of (drop l.shape-index l.shapes) ≡ spec.shapes_of l.shapes
