use Rattle.std.proofs.Common.{◌≡◌, ◌++◌, drop}
use Rattle.deputy_rules.specs.Heads as spec
use Rattle.rules_heads.proofs.head_parameters.no_shapes.Given as goal

abbrev pub invariant-loop-shape : goal.invariant-loop-shape
invariant-loop-shape l = l.none ++ spec.no_shapes (drop l.shape-index l.shapes) ≡ spec.no_shapes l.shapes
