use Rattle.std.proofs.Common.{◌≡◌, map, take}
use Rattle.deputy_rules.specs.Heads as spec
use Rattle.rules_heads.proofs.declared.shapes_of_locals.Given as goal

abbrev pub invariant-loop-local : goal.invariant-loop-local
invariant-loop-local l = l.shapes ≡ map (spec.local_shape l.table l.siblings) (take l.local-index l.locals)
