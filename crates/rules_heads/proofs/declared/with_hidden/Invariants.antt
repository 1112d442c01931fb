use Rattle.std.proofs.Common.{◌≡◌, drop}
use Rattle.deputy_rules.specs.Heads as spec
use Rattle.rules_heads.proofs.declared.with_hidden.Given as goal

abbrev pub invariant-loop-local : goal.invariant-loop-local
invariant-loop-local l = spec.with_hidden (drop l.local-index l.locals) l.all ≡ spec.with_hidden l.locals l.fn.shapes
