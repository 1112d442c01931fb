use Rattle.std.proofs.Common.{◌≡◌, ℕ, length, slice_get, Some}
use Rattle.checked_tree.specs.declared.checks.Check.{Check}
use Rattle.check_elim.specs.declared.table.CheckFact.{CheckFact}
use Rattle.check_elim.specs.Tables.{IsCheckFact}
use Rattle.check_elim.proofs.inequalities.check_facts.Given as goal

abbrev pub invariant-loop-check : goal.invariant-loop-check
invariant-loop-check l =
    (length l.all.items ≡ l.check-index)
    × ((place : ℕ) (c : Check) (x : CheckFact) → slice_get l.checks place ≡ Some c → slice_get l.all.items place ≡ Some x → IsCheckFact l.f l.facts c x)
