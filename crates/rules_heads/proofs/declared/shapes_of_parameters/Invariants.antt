use Rattle.std.proofs.Common.{◌≡◌, map, take}
use Rattle.deputy_rules.specs.Heads as spec
use Rattle.rules_heads.proofs.declared.shapes_of_parameters.Given as goal

abbrev pub invariant-loop-param : goal.invariant-loop-param
invariant-loop-param l = l.shapes ≡ map (spec.parameter_shape l.table l.siblings) (take l.param-index l.params)
