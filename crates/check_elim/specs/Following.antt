-- Second rule: what is marked of a function's checks where each statement begins with no equal check.
use Rattle.std.specs.Prelude.{ℕ, ◌≡◌, ◌-◌, ◌<◌, ◌≤◌, ◌||◌, Bool, true, false, List, Some}
use Rattle.std.specs.List.{list_any, flat_map}
use Rattle.checked_tree.specs.declared.checks.Check.{Check}
use Rattle.checked_tree.specs.declared.expressions.CheckedExpr.{CheckedExpr}
use Rattle.checked_tree.specs.declared.statements.CheckedStmt.{CheckedStmt}
use Rattle.checked_tree.specs.declared.statements.CheckedStmt.TheOpen as S
use Rattle.checked_tree.specs.declared.statements.CheckedStmt.TheFolds.{fold-CheckedStmt}
use Rattle.checked_tree.specs.declared.units.CheckedFn.{CheckedFn}
use Rattle.checked_tree.specs.Eval.{check_of}
use Rattle.checked_tree.specs.Flow.{Flow, Leaves, as_test, seen}
use Rattle.checked_tree.specs.Redundant.{flows_level}
use Rattle.check_elim.specs.declared.table.Table.{Table}
use Rattle.check_elim.specs.declared.table.Table.TheVariants as table
use Rattle.check_elim.specs.Ways.{Lost, comes}
use Rattle.check_elim.specs.Equal.{equal_effect}
use Rattle.check_elim.specs.Facts.{is_lost}
use Rattle.check_elim.specs.Redundancy.{equals}
use Rattle.check_elim.specs.Sets.{Marking}

-- a statement without parts
abbrev pub is_plain : S.CheckedStmt-F CheckedStmt → Bool
is_plain (S.Empty line) = true
is_plain (S.Assign line slot scalar value checks) = true
is_plain (S.AssignAutomatic line slot hidden value checks) = true
is_plain (S.Store line scalar place value checks) = true
is_plain (S.Zero line place size) = true
is_plain (S.Call line target function values checks) = true
is_plain (S.Kernel line target name values pointer function elem size) = true
is_plain (S.Return line value checks) = true
is_plain (S.If line e a b) = false
is_plain (S.While line e a) = false

-- the flow of the test of an `if` or a `while`
abbrev pub test_flow : CheckedFn → CheckedExpr → Flow
test_flow f e = as_test (seen f.slots e) (Leaves true) (Leaves false)

-- the flows of a statement and of those in its parts
unfoldable pub flows_in : CheckedFn → CheckedStmt → List Flow
flows_in f st = fold-CheckedStmt (List Flow) (flows_level f) st

unfoldable pub flows_of_all : CheckedFn → List CheckedStmt → List Flow
flows_of_all f ss = flat_map (flows_in f) ss

-- the facts of a table are classes of equal checks; they are inequalities
unfoldable pub IsOfClasses : Table → Type 0
IsOfClasses (table.Inequalities t) = ⊥
IsOfClasses (table.Classes t) = Unit {0}

unfoldable pub IsOfInequalities : Table → Type 0
IsOfInequalities (table.Inequalities t) = Unit {0}
IsOfInequalities (table.Classes t) = ⊥

-- some way from the start of one of these flows comes to the check without an equal one
abbrev pub is_lost_in : CheckedFn → ℕ → Check → List Flow → Bool
is_lost_in f id c flows = list_any (λ flow. is_lost (comes (equal_effect (equals f c)) id flow Lost)) flows

-- the mark of each check is that it was marked before, or that some way comes to it without an equal check
unfoldable pub Follows : CheckedFn → List Flow → Marking → Marking → Type 0
Follows f flows m n =
    (n.size ≡ m.size)
    × ((id : ℕ) (c : Check) → 1 ≤ id → id - 1 < m.size → check_of f id ≡ Some c → n.at (id - 1) ≡ (m.at (id - 1) || is_lost_in f id c flows))
