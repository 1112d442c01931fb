use Rattle.std.proofs.Common.{◌≡◌, map, take}
use Rattle.deputy_rules.specs.Calls as spec
use Rattle.rules_stmt.proofs.arguments.passed_sums.Given as goal

abbrev pub invariant-loop-arg : goal.invariant-loop-arg
invariant-loop-arg l = l.sums ≡ map spec.passed_sum (take l.arg-index l.args)
