use Rattle.std.proofs.Common.{◌≡◌, drop}
use Rattle.deputy_rules.specs.Heads as spec
use Rattle.rules_heads.proofs.heads.wrong_parameter.Given as goal

abbrev pub invariant-loop-i : goal.invariant-loop-i
invariant-loop-i l = spec.wrong_parameter l.locals l.shapes l.i (drop l.i l.params) ≡ spec.wrong_parameter l.locals l.shapes 0 l.params
