-- The laws of what is known: each check that is redundant holds where it stands, and what is known goes along with control.
use Rattle.std.specs.Prelude.{◌≡◌, ℕ, Bool, true, IsTrue, List, ◌∷◌, pos, ◌≤ℤ◌, Some, Ok, slice_index_or, Contains}
use Rattle.dep_expr.specs.Linear.{LinearForm, Assignment, value_of}
use Rattle.dep_expr.specs.declared.inequality.Ineq.{Ineq}
use Rattle.checked_tree.specs.declared.checks.Check.{Check}
use Rattle.checked_tree.specs.declared.statements.CheckedStmt.{CheckedStmt, out-CheckedStmt}
use Rattle.checked_tree.specs.declared.units.CheckedFn.{CheckedFn}
use Rattle.checked_tree.specs.Conditions.{State, condition}
use Rattle.checked_tree.specs.Eval.{check_of}
use Rattle.checked_tree.specs.Step.{target_of, picked}
use Rattle.checked_tree.specs.Flow.{Event, Tests, Finds, Flow, Node, node_at, entry, target_slots, ways, is_at}
use Rattle.checked_tree.specs.Redundant.{cond_inequality, event_inequality, is_constant, flows_of, paths_to, FollowsEqual, FollowsInequality, Redundant}
use Rattle.checked_tree.specs.Known.{HoldsIn, IsReached, KnownAt, waiting_at, slots_assigned, StayBut}

-- a check holds, if its condition has a value at all: whether a sum passes the limit of the machine's numbers is not for this to say
abbrev pub PassesIn : CheckedFn → State → Check → Type 0
PassesIn f s c = (b : Bool) → condition f.atoms s c.cond ≡ Ok b → b ≡ true

-- first rule: a check that is true of constants alone holds in every state
abbrev pub ConstantHolds : Type 0
ConstantHolds = (f : CheckedFn) (s : State) (c : Check) → IsTrue (is_constant c.cond) → PassesIn f s c

-- each check that was tested on the way holds in this state: a statement changes locals and memory behind its last check alone
abbrev pub HaveHeld : CheckedFn → State → List Event → Type 0
HaveHeld f s events = (id : ℕ) (c : Check) → Contains events (Tests id) → check_of f id ≡ Some c → condition f.atoms s c.cond ≡ Ok true

-- second rule: behind an equal check that held since the statement began, a check holds
abbrev pub EqualHolds : Type 0
EqualHolds =
    (f : CheckedFn) (id : ℕ) (c : Check) (s : State) (flow : Flow) (events : List Event)
    → Contains (flows_of f) flow → Contains (paths_to id flow) events → HaveHeld f s events → FollowsEqual f id c → PassesIn f s c

-- third rule: where what is known at its node holds, a check holds whose inequality every walk to it has met
abbrev pub MetHolds : Type 0
MetHolds =
    (f : CheckedFn) (id : ℕ) (c : Check) (n : Node) (s : State)
    → check_of f id ≡ Some c → IsTrue (is_at id n) → KnownAt f n s → FollowsInequality f id (cond_inequality c.cond) → PassesIn f s c

-- all three
abbrev pub RedundantHolds : Type 0
RedundantHolds =
    (f : CheckedFn) (id : ℕ) (c : Check) (n : Node) (s : State) (flow : Flow) (events : List Event)
    → check_of f id ≡ Some c → IsTrue (is_at id n) → KnownAt f n s
    → Contains (flows_of f) flow → Contains (paths_to id flow) events → HaveHeld f s events
    → Redundant f id → PassesIn f s c

-- at the entry of a function nothing is known, and so it holds of every state
abbrev pub EntryIsKnown : Type 0
EntryIsKnown = (f : CheckedFn) (s : State) → IsReached f (entry f) × KnownAt f (entry f) s

-- the inequality that an event gives, if it gives one, holds behind it
abbrev pub HoldsBehind : CheckedFn → Event → State → Type 0
HoldsBehind f e s = (i : Ineq) → event_inequality f e ≡ Some i → HoldsIn f s i

-- what is known moves along a way: behind the event the state has the values that it had, but in the slots that were assigned
abbrev pub KnownMoves : Type 0
KnownMoves =
    (f : CheckedFn) (n k : Node) (e : Event) (s t : State)
    → IsReached f n → KnownAt f n s → Contains (ways f n) (e, k) → StayBut (slots_assigned e) s t → HoldsBehind f e t
    → IsReached f k × KnownAt f k t

-- behind a check that held, its inequality holds
abbrev pub PassedHolds : Type 0
PassedHolds = (f : CheckedFn) (id : ℕ) (c : Check) (s : State) → check_of f id ≡ Some c → condition f.atoms s c.cond ≡ Ok true → HoldsBehind f (Tests id) s

-- the numbers in the slots
abbrev pub slot_numbers : State → Assignment
slot_numbers s k = slice_index_or s.locals k (pos 0)

-- on an edge of a branch whose fact is true of the slots, it is true of the atoms
abbrev pub FactHolds : Type 0
FactHolds = (f : CheckedFn) (l : LinearForm) (s : State) → value_of l (slot_numbers s) ≤ℤ pos 0 → HoldsBehind f (Finds (Some l)) s

-- behind a call or a kernel call, once the result is stored, what was known where the frame waited is known, but of the slots that took the result.
-- What the called function or the kernel did to memory plays no part
abbrev pub KnownBehind : Type 0
KnownBehind =
    (f : CheckedFn) (st : CheckedStmt) (rest : List CheckedStmt) (s t : State)
    → IsReached f (waiting_at f (st ∷ rest)) → KnownAt f (waiting_at f (st ∷ rest)) s → StayBut (target_slots (target_of (out-CheckedStmt st))) s t
    → IsReached f (node_at f (picked st true rest)) × KnownAt f (node_at f (picked st true rest)) t
