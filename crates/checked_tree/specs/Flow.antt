-- The flow graph of a function: its checks, its assignments of locals and its branches, in the order in which control meets them.
--
-- A node is a place in the flow of one statement, with the statements that are to do on either side. Walks go from node to node.
use Rattle.std.specs.Prelude.{ℕ, ◌+◌, ◌≡◌, ◌==◌, Bool, true, false, not, ◌&&◌, ◌||◌, List, [], ◌∷◌, ℤ, pos, negsuc, int_le, Option, Some, None, slice_get, if◌then◌else◌, Contains}
use Rattle.dep_expr.specs.Linear.{LinearForm, number_form, term_form, plus, scaled}
use Rattle.checked_tree.specs.declared.shapes.Scalar.{Scalar}
use Rattle.checked_tree.specs.declared.shapes.Scalar.TheVariants.{Void, U8, I8, U16, I16, I32, U32, Pointer}
use Rattle.checked_tree.specs.declared.shapes.Shape.{Shape}
use Rattle.checked_tree.specs.declared.shapes.Shape.TheVariants as shape
use Rattle.checked_tree.specs.declared.expressions.CheckedExpr.{CheckedExpr}
use Rattle.checked_tree.specs.declared.expressions.CheckedExpr.TheOpen as E
use Rattle.checked_tree.specs.declared.expressions.CheckedExpr.TheFolds.{fold-CheckedExpr}
use Rattle.checked_tree.specs.declared.expressions.Comparison.{Comparison}
use Rattle.checked_tree.specs.declared.expressions.Comparison.TheVariants as comparison_op
use Rattle.checked_tree.specs.declared.expressions.Logic.{Logic}
use Rattle.checked_tree.specs.declared.expressions.Logic.TheVariants as logic_op
use Rattle.checked_tree.specs.declared.expressions.PointerSum.{PointerSum}
use Rattle.checked_tree.specs.declared.expressions.PointerSum.TheVariants.{PointerPlus, PlusPointer, PointerMinus}
use Rattle.checked_tree.specs.declared.expressions.Unary.{Unary}
use Rattle.checked_tree.specs.declared.expressions.Unary.TheVariants as unary_op
use Rattle.checked_tree.specs.declared.statements.Target.{Target}
use Rattle.checked_tree.specs.declared.statements.Target.TheVariants as target
use Rattle.checked_tree.specs.declared.statements.Argument.{Argument}
use Rattle.checked_tree.specs.declared.statements.PointerOperand.{PointerOperand}
use Rattle.checked_tree.specs.declared.statements.CheckedStmt.{CheckedStmt, out-CheckedStmt}
use Rattle.checked_tree.specs.declared.statements.CheckedStmt.TheOpen as S
use Rattle.checked_tree.specs.declared.units.CheckedFn.{CheckedFn}
use Rattle.checked_tree.specs.Step.{picked}

-- what a walk meets
pub data Event : Type 0 where
  Tests : ℕ → Event  -- the check with this number
  Assigns : List ℕ → Event  -- new values in these slots
  Finds : Option LinearForm → Event  -- an edge of a branch, with the form over slots that is at most 0 there, if it tells one
  Passes : Event  -- anything else

-- what control meets in one statement, from its start or from a place in it
pub data Flow : Type 0 where
  Leaves : Bool → Flow  -- the statement ends: a test by whether it holds, each other with true
  Ends : Flow  -- the function ends
  Meets : Event → Flow → Flow
  Splits : Flow → Flow → Flow  -- a branch

-- what one side of a comparison is, as far as facts go
pub data Side : Type 0 where
  OfSlot : ℕ → Side  -- a local
  OfNumber : ℤ → Scalar → Side  -- a constant
  OfNull : Side
  OfOther : Side

-- what is seen of an expression: which side it is, the facts on the edges of a branch on it, and its flow as a value and as a test
pub data Seen : Type 0 where
  Saw : Side → (Bool → Option LinearForm) → (Flow → Flow) → (Flow → Flow → Flow) → Seen

abbrev pub side_of : Seen → Side
side_of (Saw side facts value test) = side

abbrev pub facts_of : Seen → Bool → Option LinearForm
facts_of (Saw side facts value test) = facts

abbrev pub as_value : Seen → Flow → Flow
as_value (Saw side facts value test) = value

abbrev pub as_test : Seen → Flow → Flow → Flow
as_test (Saw side facts value test) = test

-- the types that promotion leaves
abbrev pub is_unsigned : Scalar → Bool
is_unsigned Void = false
is_unsigned U8 = false
is_unsigned I8 = false
is_unsigned U16 = false
is_unsigned I16 = false
is_unsigned I32 = false
is_unsigned U32 = true
is_unsigned (Pointer size) = false

abbrev pub is_pointer_shape : Option Shape → Bool
is_pointer_shape (Some (shape.Pointer elem bounds)) = true
is_pointer_shape _ = false

-- whether a slot holds an `unsigned` after promotion, if it holds an integer
abbrev pub slot_sign : Option Shape → Option Bool
slot_sign (Some (shape.Int scalar)) = Some (is_unsigned scalar)
slot_sign _ = None

-- a side of a comparison of integers: its form over slots, whether it is `unsigned` and a local, and whether it is a constant of at least 0
pub record IntSide : Type 0 where
  pub form : LinearForm
  pub is_unsigned : Bool
  pub is_local : Bool
  pub is_natural : Bool

abbrev pub slot_side : ℕ → Option Bool → Option IntSide
slot_side slot None = None
slot_side slot (Some sign) = Some (record { form = term_form (pos 1, slot); is_unsigned = sign; is_local = true; is_natural = false })

abbrev pub int_side : List Shape → Side → Option IntSide
int_side slots (OfSlot slot) = slot_side slot (slot_sign (slice_get slots slot))
int_side slots (OfNumber z scalar) = Some (record { form = number_form z; is_unsigned = is_unsigned scalar; is_local = false; is_natural = int_le (pos 0) z })
int_side slots OfNull = None
int_side slots OfOther = None

-- one is an `unsigned` local, and the other a constant of at least 0
abbrev pub local_beside_natural : IntSide → IntSide → Bool
local_beside_natural a b = a.is_unsigned && (a.is_local && b.is_natural)

-- the comparison is that of whole numbers: after promotion both sides are `int` or both `unsigned`, or one is an `unsigned` local and the other a constant of at least 0
abbrev pub agree : IntSide → IntSide → Bool
agree a b =
    (a.is_unsigned && b.is_unsigned) || ((not a.is_unsigned && not b.is_unsigned) || (local_beside_natural a b || local_beside_natural b a))

-- at most 0 where the first form is at most the second; where it is less
abbrev pub at_most : LinearForm → LinearForm → LinearForm
at_most a b = plus a (scaled b (negsuc 0))

abbrev pub less : LinearForm → LinearForm → LinearForm
less a b = plus (at_most a b) (number_form (pos 1))

-- the fact of a comparison of integers, where it holds and where not
abbrev pub order_fact : Comparison → LinearForm → LinearForm → Bool → Option LinearForm
order_fact comparison_op.Less a b true = Some (less a b)
order_fact comparison_op.Less a b false = Some (at_most b a)
order_fact comparison_op.LessEqual a b true = Some (at_most a b)
order_fact comparison_op.LessEqual a b false = Some (less b a)
order_fact comparison_op.Greater a b true = Some (less b a)
order_fact comparison_op.Greater a b false = Some (at_most a b)
order_fact comparison_op.GreaterEqual a b true = Some (at_most b a)
order_fact comparison_op.GreaterEqual a b false = Some (less a b)
order_fact comparison_op.Equal a b holds = None
order_fact comparison_op.NotEqual a b holds = None

abbrev pub int_fact : Comparison → Option IntSide → Option IntSide → Bool → Option LinearForm
int_fact op (Some a) (Some b) holds = if agree a b then order_fact op a.form b.form holds else None
int_fact op _ _ holds = None

-- the fact of a pointer in a slot that is not null: it is at least 1
abbrev pub not_null_fact : List Shape → ℕ → Bool → Option LinearForm
not_null_fact slots slot true = if is_pointer_shape (slice_get slots slot) then Some (less (number_form (pos 0)) (term_form (pos 1, slot))) else None
not_null_fact slots slot false = None

-- the fact of a comparison, by its sides; `p != 0` and `p == 0` tell what `p` does
abbrev pub compare_fact : List Shape → Comparison → Side → Side → Bool → Option LinearForm
compare_fact slots comparison_op.NotEqual (OfSlot slot) OfNull holds = not_null_fact slots slot holds
compare_fact slots comparison_op.Equal (OfSlot slot) OfNull holds = not_null_fact slots slot (not holds)
compare_fact slots op a b holds = int_fact op (int_side slots a) (int_side slots b) holds

-- the fact of a local as a test
abbrev pub side_fact : List Shape → Side → Bool → Option LinearForm
side_fact slots (OfSlot slot) holds = not_null_fact slots slot holds
side_fact slots _ holds = None

-- the flow through checks, in order
abbrev pub checked : List ℕ → Flow → Flow
checked [] k = k
checked (id ∷ ids) k = Meets (Tests id) (checked ids k)

-- a branch, with its facts
abbrev pub branch : (Bool → Option LinearForm) → Flow → Flow → Flow
branch facts holds fails = Splits (Meets (Finds (facts true)) holds) (Meets (Finds (facts false)) fails)

-- an expression that is a leaf of tests: it is evaluated, and branched on
abbrev pub leaf : Side → (Bool → Option LinearForm) → (Flow → Flow) → Seen
leaf side facts value = Saw side facts value (λ holds fails. value (branch facts holds fails))

-- an expression that tells no fact
abbrev pub plain : (Flow → Flow) → Seen
plain value = leaf OfOther (λ _. None) value

-- `!` exchanges the edges of its test; each other operator is a leaf
abbrev pub unary_seen : Unary → Scalar → Seen → Seen
unary_seen unary_op.Not scalar a = Saw OfOther (λ _. None) (as_value a) (λ holds fails. as_test a fails holds)
unary_seen unary_op.Plus scalar a = plain (as_value a)
unary_seen unary_op.Negative scalar a = plain (as_value a)
unary_seen unary_op.Complement scalar a = plain (as_value a)
unary_seen unary_op.Cast scalar a = plain (as_value a)

-- `&&` and `||` as a value: one branch on the left side as its leaf. As a test their own leaves are taken apart
abbrev pub logical_seen : Logic → Seen → Seen → Seen
logical_seen logic_op.And a b =
    Saw OfOther (λ _. None) (λ k. as_value a (branch (facts_of a) (as_value b k) k)) (λ holds fails. as_test a (as_test b holds fails) fails)
logical_seen logic_op.Or a b =
    Saw OfOther (λ _. None) (λ k. as_value a (branch (facts_of a) k (as_value b k))) (λ holds fails. as_test a holds (as_test b holds fails))

-- the parts of a pointer sum, left to right
abbrev pub sum_flow : PointerSum → Seen → Seen → Flow → Flow
sum_flow PointerPlus p i k = as_value p (as_value i k)
sum_flow PlusPointer p i k = as_value i (as_value p k)
sum_flow PointerMinus p i k = as_value p (as_value i k)

-- one level of an expression
abbrev pub seen_level : List Shape → E.CheckedExpr-F Seen → Seen
seen_level slots (E.Number value scalar) = leaf (OfNumber value scalar) (λ _. None) (λ k. k)
seen_level slots E.Null = leaf OfNull (λ _. None) (λ k. k)
seen_level slots (E.Local slot) = leaf (OfSlot slot) (side_fact slots (OfSlot slot)) (λ k. k)
seen_level slots (E.Block base) = plain (λ k. k)
seen_level slots (E.Through pointer checks) = plain (λ k. as_value pointer (checked checks k))
seen_level slots (E.Element pointer index size checks) = plain (λ k. as_value pointer (as_value index (checked checks k)))
seen_level slots (E.Field place offset checks) = plain (λ k. as_value place (checked checks k))
seen_level slots (E.Load scalar place) = plain (as_value place)
seen_level slots (E.AddressOf place) = plain (as_value place)
seen_level slots (E.Moved sum pointer by size checks) = plain (λ k. sum_flow sum pointer by (checked checks k))
seen_level slots (E.Unary op scalar of) = unary_seen op scalar of
seen_level slots (E.Binary op scalar left right checks) = plain (λ k. as_value left (as_value right (checked checks k)))
seen_level slots (E.Compare op scalar left right) =
    leaf OfOther (compare_fact slots op (side_of left) (side_of right)) (λ k. as_value left (as_value right k))
seen_level slots (E.Logical op left right) = logical_seen op left right

-- what is seen of an expression
unfoldable pub seen : List Shape → CheckedExpr → Seen
seen slots e = fold-CheckedExpr Seen (seen_level slots) e

-- the flow of an expression's value
abbrev pub value_flow : CheckedFn → CheckedExpr → Flow → Flow
value_flow f e k = as_value (seen f.slots e) k

abbrev pub arguments_flow : CheckedFn → List Argument → Flow → Flow
arguments_flow f [] k = k
arguments_flow f (a ∷ rest) k = value_flow f a.value (arguments_flow f rest k)

abbrev pub operand_flow : CheckedFn → Option PointerOperand → Flow → Flow
operand_flow f None k = k
operand_flow f (Some p) k = value_flow f p.value k

abbrev pub argument_flow : CheckedFn → Option Argument → Flow → Flow
argument_flow f None k = k
argument_flow f (Some a) k = value_flow f a.value k

-- the slots that take a result
abbrev pub target_slots : Option Target → List ℕ
target_slots None = []
target_slots (Some (target.Int slot scalar)) = slot ∷ []
target_slots (Some (target.Nullterm slot)) = slot ∷ []
target_slots (Some (target.Automatic slot hidden)) = slot ∷ (hidden ∷ ((hidden + 1) ∷ []))

-- the flow of a statement, without its parts
abbrev pub own_flow : {A : Type 0} → CheckedFn → S.CheckedStmt-F A → Flow
own_flow f (S.Empty line) = Leaves true
own_flow f (S.Assign line slot scalar value checks) = value_flow f value (checked checks (Meets (Assigns (slot ∷ [])) (Leaves true)))
own_flow f (S.AssignAutomatic line slot hidden value checks) =
    value_flow f value.value (checked checks (Meets (Assigns (slot ∷ (hidden ∷ ((hidden + 1) ∷ [])))) (Leaves true)))
own_flow f (S.Store line scalar place value checks) = value_flow f value (value_flow f place (checked checks (Leaves true)))
own_flow f (S.Zero line place size) = value_flow f place (Leaves true)
own_flow f (S.Call line target function values checks) = arguments_flow f values (checked checks (Meets (Assigns (target_slots target)) (Leaves true)))
own_flow f (S.Kernel line target name values pointer function elem size) =
    arguments_flow f values (operand_flow f pointer (Meets (Assigns (target_slots target)) (Leaves true)))
own_flow f (S.Return line value checks) = argument_flow f value (checked checks Ends)
own_flow f (S.If line test first second) = as_test (seen f.slots test) (Leaves true) (Leaves false)
own_flow f (S.While line test body) = as_test (seen f.slots test) (Leaves true) (Leaves false)

-- a node: what is left of the flow of a statement, and the statements to do after it, where its test holds and where not
pub record Node : Type 0 where
  pub flow : Flow
  pub holds : List CheckedStmt
  pub fails : List CheckedStmt

-- the node at which the first of these statements begins
unfoldable pub node_at : CheckedFn → List CheckedStmt → Node
node_at f [] = record { flow = Ends; holds = []; fails = [] }
node_at f (st ∷ rest) = record { flow = own_flow f (out-CheckedStmt st); holds = picked st true rest; fails = picked st false rest }

-- the entry of a function
abbrev pub entry : CheckedFn → Node
entry f = node_at f f.body

-- where a walk can go from a node, and what it meets on the way
abbrev pub ways_of : CheckedFn → Node → Flow → List (Event × Node)
ways_of f n (Leaves true) = (Passes, node_at f n.holds) ∷ []
ways_of f n (Leaves false) = (Passes, node_at f n.fails) ∷ []
ways_of f n Ends = []
ways_of f n (Meets e k) = (e, record n { flow = k }) ∷ []
ways_of f n (Splits a b) = (Passes, record n { flow = a }) ∷ ((Passes, record n { flow = b }) ∷ [])

unfoldable pub ways : CheckedFn → Node → List (Event × Node)
ways f n = ways_of f n n.flow

-- a walk from one node to another, which meets these events in order
abbrev pub Walks : CheckedFn → Node → List Event → Node → Type 0
Walks f m [] n = m ≡ n
Walks f m (e ∷ es) n = (k : Node) × Contains (ways f m) (e, k) × Walks f k es n

-- a node whose next event is the check with this number
abbrev pub tests_next : ℕ → Flow → Bool
tests_next id (Meets (Tests own) k) = own == id
tests_next id _ = false

abbrev pub is_at : ℕ → Node → Bool
is_at id n = tests_next id n.flow
