-- What the marks of both analyses say of a function's checks.
use Rattle.std.specs.Prelude.{ℕ, ◌≡◌, ◌-◌, ◌≤◌, Bool, false, not, ◌&&◌, List, Some, slice_index_or}
use Rattle.std.specs.Option.{is_some}
use Rattle.checked_tree.specs.declared.checks.Check.{Check}
use Rattle.checked_tree.specs.declared.units.CheckedFn.{CheckedFn}
use Rattle.checked_tree.specs.Eval.{check_of}
use Rattle.checked_tree.specs.Redundant.{cond_inequality}
use Rattle.check_elim.specs.declared.table.Table.{Table}
use Rattle.check_elim.specs.Redundancy.{follows_equal, follows_inequality}
use Rattle.check_elim.specs.Sets.{own_fact}

-- third rule: a check that has a fact is not marked exactly where every walk has met the fact
unfoldable pub SayUnmet : CheckedFn → Table → List Bool → Type 0
SayUnmet f t marks =
    (id : ℕ) (c : Check) → 1 ≤ id → check_of f id ≡ Some c → (is_some (own_fact t id) && not (slice_index_or marks (id - 1) false)) ≡ follows_inequality f id (cond_inequality c.cond)

-- second rule: a check is marked exactly where some way comes to it without an equal one
unfoldable pub SayUnequal : CheckedFn → List Bool → Type 0
SayUnequal f marks = (id : ℕ) (c : Check) → 1 ≤ id → check_of f id ≡ Some c → slice_index_or marks (id - 1) false ≡ not (follows_equal f id c)
