use Rattle.std.proofs.Common.{◌≡◌, drop, ◌++◌}
use Rattle.check_elim.specs.Tables.{pairs_from}
use Rattle.check_elim.proofs.inequalities.pairs_of.Given as goal

abbrev pub invariant-loop-number : goal.invariant-loop-number
invariant-loop-number l = l.pairs.items ++ pairs_from l.f l.number (drop l.number l.facts) ≡ pairs_from l.f 0 l.facts
