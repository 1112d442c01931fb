use Rattle.std.proofs.Common.{◌≡◌, drop}
use Rattle.deputy_rules.specs.Heads as spec
use Rattle.rules_heads.proofs.head_parameters.wrong_head_parameter.Given as goal

abbrev pub invariant-loop-i : goal.invariant-loop-i
invariant-loop-i l = spec.wrong_head_parameter l.params l.shapes l.i (drop l.i l.params) ≡ spec.wrong_head_parameter l.params l.shapes 0 l.params
