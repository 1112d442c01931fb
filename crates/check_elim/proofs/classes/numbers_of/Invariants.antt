use Rattle.std.proofs.Common.{◌≡◌, drop, map, ◌++◌}
use Rattle.checked_tree.specs.declared.checks.Check.{Check}
use Rattle.check_elim.specs.Tables.{check_code, class_among}
use Rattle.check_elim.proofs.classes.numbers_of.Given as goal

abbrev pub invariant-loop-check : goal.invariant-loop-check
invariant-loop-check l =
    l.numbers.items ++ map (λ (c : Check). class_among l.codes (check_code c)) (drop l.check-index l.checks) ≡ map (λ (c : Check). class_among l.codes (check_code c)) l.checks
