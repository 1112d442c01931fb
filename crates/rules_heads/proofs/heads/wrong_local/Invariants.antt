use Rattle.std.proofs.Common.{◌≡◌, ◌+◌, drop}
use Rattle.deputy_rules.specs.Heads as spec
use Rattle.rules_heads.proofs.heads.wrong_local.Given as goal

abbrev pub invariant-loop-i : goal.invariant-loop-i
invariant-loop-i l = spec.wrong_local l.locals l.shapes (l.start + l.i) (drop l.i l.list) ≡ spec.wrong_local l.locals l.shapes l.start l.list
