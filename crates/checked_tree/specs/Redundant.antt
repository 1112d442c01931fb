-- Redundant checks, as a statement over all walks of the flow graph.
use Rattle.std.specs.Prelude.{ℕ, ◌≡◌, ◌⊎◌, IsTrue, ◌==◌, Bool, true, false, not, ◌&&◌, ◌||◌, List, [], ◌∷◌, ◌++◌, map, position, ℤ, pos, int_le, Option, Some, None, option_map, slice_get, if◌then◌else◌, All, Contains}
use Rattle.std.specs.List.{list_any, list_all, flat_map}
use Rattle.std.specs.Ordering.{int_eq}
use Rattle.dep_expr.specs.Linear.{LinearForm}
use Rattle.dep_expr.specs.Merged.{merged}
use Rattle.dep_expr.specs.Normed.{normed}
use Rattle.dep_expr.specs.Inequality.{Implies}
use Rattle.dep_expr.specs.declared.inequality.Ineq.{Ineq}
use Rattle.checked_tree.specs.declared.checks.Check.{Check}
use Rattle.checked_tree.specs.declared.checks.Cond.{Cond}
use Rattle.checked_tree.specs.declared.checks.Cond.TheVariants.{Le, Aligned, NonZero, Equal, Term, Kept}
use Rattle.checked_tree.specs.declared.expressions.CheckedExpr.{CheckedExpr, out-CheckedExpr}
use Rattle.checked_tree.specs.declared.expressions.CheckedExpr.TheOpen as E
use Rattle.checked_tree.specs.declared.expressions.CheckedExpr.TheFolds.{fold-CheckedExpr}
use Rattle.checked_tree.specs.declared.statements.CheckedStmt.TheOpen as S
use Rattle.checked_tree.specs.declared.statements.CheckedStmt.TheFolds.{fold-CheckedStmt}
use Rattle.checked_tree.specs.declared.units.CheckedFn.{CheckedFn}
use Rattle.checked_tree.specs.Conditions.{is_multiple}
use Rattle.checked_tree.specs.Eval.{check_of}
use Rattle.checked_tree.specs.Flow.{Event, Tests, Assigns, Finds, Passes, Flow, Leaves, Ends, Meets, Splits, Node, own_flow, entry, Walks, is_at}

-- an expression that reads memory somewhere
abbrev pub reads_level : E.CheckedExpr-F Bool → Bool
reads_level (E.Number value scalar) = false
reads_level E.Null = false
reads_level (E.Local slot) = false
reads_level (E.Block base) = false
reads_level (E.Through pointer checks) = pointer
reads_level (E.Element pointer index size checks) = pointer || index
reads_level (E.Field place offset checks) = place
reads_level (E.Load scalar place) = true
reads_level (E.AddressOf place) = place
reads_level (E.Moved sum pointer by size checks) = pointer || by
reads_level (E.Unary op scalar of) = of
reads_level (E.Binary op scalar left right checks) = left || right
reads_level (E.Compare op scalar left right) = left || right
reads_level (E.Logical op left right) = left || right

unfoldable pub reads_memory : CheckedExpr → Bool
reads_memory e = fold-CheckedExpr Bool reads_level e

-- the slots that an expression reads
abbrev pub slots_level : E.CheckedExpr-F (List ℕ) → List ℕ
slots_level (E.Number value scalar) = []
slots_level E.Null = []
slots_level (E.Local slot) = slot ∷ []
slots_level (E.Block base) = []
slots_level (E.Through pointer checks) = pointer
slots_level (E.Element pointer index size checks) = pointer ++ index
slots_level (E.Field place offset checks) = place
slots_level (E.Load scalar place) = place
slots_level (E.AddressOf place) = place
slots_level (E.Moved sum pointer by size checks) = pointer ++ by
slots_level (E.Unary op scalar of) = of
slots_level (E.Binary op scalar left right checks) = left ++ right
slots_level (E.Compare op scalar left right) = left ++ right
slots_level (E.Logical op left right) = left ++ right

unfoldable pub slots_read : CheckedExpr → List ℕ
slots_read e = fold-CheckedExpr (List ℕ) slots_level e

-- the atoms of a form, by their numbers, and of an inequality with its guard
abbrev pub guard_terms : Option LinearForm → List (ℤ × ℕ)
guard_terms None = []
guard_terms (Some g) = g.terms

abbrev pub terms_of : Ineq → List (ℤ × ℕ)
terms_of i = i.left.terms ++ guard_terms i.guard

abbrev pub atom_reads_memory : Option CheckedExpr → Bool
atom_reads_memory None = true
atom_reads_memory (Some e) = reads_memory e

abbrev pub atom_slots : Option CheckedExpr → List ℕ
atom_slots None = []
atom_slots (Some e) = slots_read e

-- an inequality whose atoms and guard read no memory: it speaks of locals alone
unfoldable pub is_over_locals : CheckedFn → Ineq → Bool
is_over_locals f i = list_all (λ t. not (atom_reads_memory (slice_get f.atoms t.1))) (terms_of i)

-- the slots of an inequality and of its guard
unfoldable pub slots_of : CheckedFn → Ineq → List ℕ
slots_of f i = flat_map (λ t. atom_slots (slice_get f.atoms t.1)) (terms_of i)

-- an inequality as the rules compare it: the left side normed, the guard merged
unfoldable pub comparable : Ineq → Ineq
comparable i = record { left = normed i.left; guard = option_map merged i.guard }

-- the slot of an atom that is a local
abbrev pub local_slot : E.CheckedExpr-F CheckedExpr → Option ℕ
local_slot (E.Local slot) = Some slot
local_slot _ = None

abbrev pub is_slot : ℕ → Option ℕ → Bool
is_slot slot None = false
is_slot slot (Some own) = own == slot

-- the number of the atom that is the local in a slot, if there is one
abbrev pub atom_of_slot : CheckedFn → ℕ → Option ℕ
atom_of_slot f slot = position (λ e. is_slot slot (local_slot (out-CheckedExpr e))) f.atoms

-- terms over slots as terms over atoms, where each slot is an atom
abbrev pub cons_term : ℤ → Option ℕ → Option (List (ℤ × ℕ)) → Option (List (ℤ × ℕ))
cons_term z (Some a) (Some ts) = Some ((z, a) ∷ ts)
cons_term z _ _ = None

abbrev pub terms_over_atoms : CheckedFn → List (ℤ × ℕ) → Option (List (ℤ × ℕ))
terms_over_atoms f [] = Some []
terms_over_atoms f (t ∷ ts) = cons_term t.0 (atom_of_slot f t.1) (terms_over_atoms f ts)

-- a fact over slots as an inequality over atoms. A fact of which some local is no atom implies no check
unfoldable pub fact_over_atoms : CheckedFn → LinearForm → Option Ineq
fact_over_atoms f l = option_map (λ ts. comparable (record { left = record { terms = ts; constant = l.constant }; guard = None })) (terms_over_atoms f (merged l).terms)

-- the inequality of a check, as the rules compare it, if it is one
abbrev pub cond_inequality : Cond → Option Ineq
cond_inequality (Le i) = Some (comparable i)
cond_inequality (Aligned gap size guard) = None
cond_inequality (NonZero l) = None
cond_inequality (Equal l z) = None
cond_inequality (Term at new) = None
cond_inequality (Kept tag new at size) = None

abbrev pub check_inequality : Option Check → Option Ineq
check_inequality None = None
check_inequality (Some c) = cond_inequality c.cond

-- the inequality that holds after an event
abbrev pub event_inequality : CheckedFn → Event → Option Ineq
event_inequality f (Tests id) = check_inequality (check_of f id)
event_inequality f (Assigns slots) = None
event_inequality f (Finds None) = None
event_inequality f (Finds (Some l)) = fact_over_atoms f l
event_inequality f Passes = None

-- an event after which an inequality holds, by one that implies it
abbrev pub Gives : Option Ineq → Ineq → Type 0
Gives None i = ⊥
Gives (Some strong) i = Implies strong i

-- an event that assigns one of these slots
abbrev pub assigns_any : List ℕ → Event → Bool
assigns_any slots (Assigns own) = list_any (λ s. list_any (λ t. s == t) slots) own
assigns_any slots _ = false

-- events that have met an inequality: one of them gives it, and none behind that one assigns a local of it
pub record Met (f : CheckedFn) (i : Ineq) (events : List Event) : Type 0 where
  pub before : List Event
  pub event : Event
  pub after : List Event
  pub split : events ≡ before ++ event ∷ after
  pub gives : Gives (event_inequality f event) i
  pub kept : list_any (assigns_any (slots_of f i)) after ≡ false

-- first rule: true of constants alone
abbrev pub has_no_atoms : LinearForm → Bool
has_no_atoms l = is_empty l.terms
  where
    is_empty : List (ℤ × ℕ) → Bool
    is_empty [] = true
    is_empty (t ∷ ts) = false

abbrev pub is_zero_constant : Option LinearForm → Bool
is_zero_constant None = false
is_zero_constant (Some g) = has_no_atoms g && int_eq g.constant (pos 0)

unfoldable pub is_constant : Cond → Bool
is_constant (Le i) = has_no_atoms i.left && (int_le i.left.constant (pos 0) || is_zero_constant i.guard)
is_constant (Aligned gap size guard) = list_all (λ t. is_multiple t.0 size) gap.terms && is_multiple gap.constant size
is_constant (NonZero l) = has_no_atoms l && not (int_eq l.constant (pos 0))
is_constant (Equal l z) = false
is_constant (Term at new) = false
is_constant (Kept tag new at size) = false

-- second rule: the events before a check, on each way to it from the start of a flow
abbrev pub is_test : ℕ → Event → Bool
is_test id (Tests own) = own == id
is_test id _ = false

unfoldable pub paths_to : ℕ → Flow → List (List Event)
paths_to id (Leaves b) = []
paths_to id Ends = []
paths_to id (Meets e k) = (if is_test id e then [] ∷ [] else []) ++ map (λ es. e ∷ es) (paths_to id k)
paths_to id (Splits a b) = paths_to id a ++ paths_to id b

-- the flows of a statement and of those in its parts
abbrev pub flows_level : CheckedFn → S.CheckedStmt-F (List Flow) → List Flow
flows_level f (S.If line test first second) = own_flow f (S.If line test first second) ∷ (flat_map (λ x. x) first ++ flat_map (λ x. x) second)
flows_level f (S.While line test body) = own_flow f (S.While line test body) ∷ flat_map (λ x. x) body
flows_level f level = own_flow f level ∷ []

unfoldable pub flows_of : CheckedFn → List Flow
flows_of f = flat_map (λ st. fold-CheckedStmt (List Flow) (flows_level f) st) f.body

-- a check of the same kind and condition
abbrev pub IsSameCheck : Check → Option Check → Type 0
IsSameCheck c None = ⊥
IsSameCheck c (Some d) = (d.kind ≡ c.kind) × (d.cond ≡ c.cond)

-- an event that tests such a check
abbrev pub Equals : CheckedFn → Check → Event → Type 0
Equals f c (Tests id) = IsSameCheck c (check_of f id)
Equals f c _ = ⊥

-- on every way from the start of its statement an equal check stands earlier
abbrev pub FollowsEqual : CheckedFn → ℕ → Check → Type 0
FollowsEqual f id c = All (λ flow. All (λ events. (e : Event) × Contains events e × Equals f c e) (paths_to id flow)) (flows_of f)

-- third rule: an inequality over locals that every walk from the entry to its check has met
abbrev pub IsMetBefore : CheckedFn → ℕ → Ineq → Type 0
IsMetBefore f id i =
    IsTrue (is_over_locals f i)
    × ((events : List Event) (n : Node) → Walks f (entry f) events n → IsTrue (is_at id n) → Met f i events)

abbrev pub FollowsInequality : CheckedFn → ℕ → Option Ineq → Type 0
FollowsInequality f id None = ⊥
FollowsInequality f id (Some i) = IsMetBefore f id i

-- a check of a function is redundant, by its number
abbrev pub IsRedundant : CheckedFn → ℕ → Check → Type 0
IsRedundant f id c = IsTrue (is_constant c.cond) ⊎ (FollowsEqual f id c ⊎ FollowsInequality f id (cond_inequality c.cond))

abbrev pub RedundantAt : CheckedFn → ℕ → Option Check → Type 0
RedundantAt f id None = ⊥
RedundantAt f id (Some c) = IsRedundant f id c

abbrev pub Redundant : CheckedFn → ℕ → Type 0
Redundant f id = RedundantAt f id (check_of f id)
