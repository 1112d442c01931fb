-- What is known where a frame stands, and how it goes on from there.
--
-- At a node of a function's flow graph it is known that each inequality over locals, of those of the function's own checks, holds which every walk
-- to there has met. What a branch tells is no part of it: it counts at the branch's own edge, and of every other inequality it follows.
use Rattle.std.specs.Prelude.{◌≡◌, ℕ, ◌==◌, Bool, true, false, IsTrue, List, [], ◌∷◌, ℤ, pos, Some, Ok, Err, slice_get, slice_index_or}
use Rattle.std.specs.List.{list_any}
use Rattle.dep_expr.specs.Linear.{Assignment}
use Rattle.dep_expr.specs.Inequality.{Satisfies}
use Rattle.dep_expr.specs.declared.inequality.Ineq.{Ineq}
use Rattle.byte_memory.specs.Tested.{Memory}
use Rattle.checked_tree.specs.declared.expressions.CheckedExpr.{CheckedExpr}
use Rattle.checked_tree.specs.declared.statements.CheckedStmt.{CheckedStmt, out-CheckedStmt}
use Rattle.checked_tree.specs.declared.statements.CheckedStmt.TheOpen as S
use Rattle.checked_tree.specs.declared.units.CheckedFn.{CheckedFn}
use Rattle.checked_tree.specs.declared.units.CheckedUnit.{CheckedUnit}
use Rattle.checked_tree.specs.Outcome.{Got}
use Rattle.checked_tree.specs.Conditions.{State, atom_value}
use Rattle.checked_tree.specs.Eval.{check_of}
use Rattle.checked_tree.specs.Step.{Frame, Activity, target_of, picked, state_of}
use Rattle.checked_tree.specs.Flow.{Event, Assigns, Flow, Leaves, Meets, Node, node_at, entry, target_slots, Walks}
use Rattle.checked_tree.specs.Redundant.{check_inequality, is_over_locals, Met}

-- the number of an outcome, 0 where it has none
abbrev pub number_or_zero : Got → ℤ
number_or_zero (Ok z) = z
number_or_zero (Err e) = pos 0

-- the numbers that atoms have in a state
abbrev pub atom_numbers : List CheckedExpr → State → Assignment
atom_numbers atoms s a = number_or_zero (atom_value s (slice_get atoms a))

-- an inequality over the atoms of a function holds, over whole numbers
abbrev pub HoldsIn : CheckedFn → State → Ineq → Type 0
HoldsIn f s i = Satisfies (atom_numbers f.atoms s) i

-- some walk from the entry comes to a node
abbrev pub IsReached : CheckedFn → Node → Type 0
IsReached f n = (events : List Event) × Walks f (entry f) events n

-- each walk from the entry to a node has met an inequality
abbrev pub IsMetAt : CheckedFn → Node → Ineq → Type 0
IsMetAt f n i = (events : List Event) → Walks f (entry f) events n → Met f i events

-- what is known at a node
abbrev pub KnownAt : CheckedFn → Node → State → Type 0
KnownAt f n s =
    (id : ℕ) (i : Ineq) → check_inequality (check_of f id) ≡ Some i → IsTrue (is_over_locals f i) → IsMetAt f n i → HoldsIn f s i

-- ---- where a frame stands
-- what is left of a statement whose frame waits for a result: it stands behind its arguments and checks, before the result is stored
abbrev pub waiting_flow : S.CheckedStmt-F CheckedStmt → Flow
waiting_flow level = Meets (Assigns (target_slots (target_of level))) (Leaves true)

-- the node at which a frame waits in the first of these statements, in a call or for the kernel's answer
unfoldable pub waiting_at : CheckedFn → List CheckedStmt → Node
waiting_at f [] = node_at f []
waiting_at f (st ∷ rest) =
    record { flow = waiting_flow (out-CheckedStmt st); holds = picked st true rest; fails = picked st false rest }

-- the node at which a frame stands: it waits in its first statement, or has not begun it
abbrev pub place_of : CheckedFn → Bool → List CheckedStmt → Node
place_of f true todo = waiting_at f todo
place_of f false todo = node_at f todo

-- what is known of a frame: a walk comes to where it stands, and what is known there holds
pub record IsKnown (f : CheckedFn) (waits : Bool) (todo : List CheckedStmt) (s : State) : Type 0 where
  pub reached : IsReached f (place_of f waits todo)
  pub known : KnownAt f (place_of f waits todo) s

-- the same of the frames of an activity: the top one waits where it has asked the kernel, and each other waits in its call
abbrev pub IsKnownIn : CheckedUnit → Bool → Frame → Memory → Type 0
IsKnownIn unit waits fr m = (f : CheckedFn) → slice_get unit.functions fr.function ≡ Some f → IsKnown f waits fr.todo (state_of fr m)

abbrev pub AreKnown : CheckedUnit → Bool → Activity → Memory → Type 0
AreKnown unit waits [] m = Unit {0}
AreKnown unit waits (top ∷ below) m = IsKnownIn unit waits top m × AreKnown unit true below m

-- ---- what an event does
-- the slots to which an event gives new values
abbrev pub slots_assigned : Event → List ℕ
slots_assigned (Assigns slots) = slots
slots_assigned _ = []

-- two states that have the same values in each slot but these. Their memories may be any
abbrev pub StayBut : List ℕ → State → State → Type 0
StayBut slots s t = (k : ℕ) → list_any (λ own. own == k) slots ≡ false → slice_index_or s.locals k (pos 0) ≡ slice_index_or t.locals k (pos 0)
