use Rattle.std.proofs.Common.{◌≡◌, drop, ◌++◌}
use Rattle.check_elim.specs.Tables.{found}
use Rattle.check_elim.proofs.inequalities.facts_of.Given as goal

abbrev pub invariant-loop-check : goal.invariant-loop-check
invariant-loop-check l = l.facts.items ++ found l.f (drop l.check-index l.checks) ≡ found l.f l.checks
