use Rattle.std.proofs.Common.{◌≡◌, map, take}
use Rattle.deputy_rules.specs.Calls as spec
use Rattle.rules_stmt.proofs.arguments.passed_arguments.Given as goal

abbrev pub invariant-loop-arg : goal.invariant-loop-arg
invariant-loop-arg l = l.arguments ≡ map spec.passed_argument (take l.arg-index l.args)
