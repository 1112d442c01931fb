-- What an expression and a statement make of what is known at their start, without their flow: the definition that the code follows.
--
-- It is generic in what is known at a place (A), and in what is noted of checks on the way (M).
use Rattle.std.specs.Prelude.{ℕ, Bool, true, false, List, [], ◌∷◌, ◌++◌, map, Option, Some, None, ◌+◌}
use Rattle.dep_expr.specs.Linear.{LinearForm}
use Rattle.checked_tree.specs.declared.shapes.Shape.{Shape}
use Rattle.checked_tree.specs.declared.expressions.CheckedExpr.{CheckedExpr}
use Rattle.checked_tree.specs.declared.expressions.CheckedExpr.TheOpen as E
use Rattle.checked_tree.specs.declared.expressions.CheckedExpr.TheFolds.{fold-CheckedExpr}
use Rattle.checked_tree.specs.declared.expressions.Logic.{Logic}
use Rattle.checked_tree.specs.declared.expressions.Logic.TheVariants as logic_op
use Rattle.checked_tree.specs.declared.expressions.PointerSum.{PointerSum}
use Rattle.checked_tree.specs.declared.expressions.PointerSum.TheVariants.{PointerPlus, PlusPointer, PointerMinus}
use Rattle.checked_tree.specs.declared.expressions.Unary.{Unary}
use Rattle.checked_tree.specs.declared.expressions.Unary.TheVariants as unary_op
use Rattle.checked_tree.specs.declared.statements.Argument.{Argument}
use Rattle.checked_tree.specs.declared.statements.PointerOperand.{PointerOperand}
use Rattle.checked_tree.specs.declared.statements.CheckedStmt.{CheckedStmt}
use Rattle.checked_tree.specs.declared.statements.CheckedStmt.TheOpen as S
use Rattle.checked_tree.specs.declared.statements.CheckedStmt.TheFolds.{fold-CheckedStmt}
use Rattle.checked_tree.specs.Flow.{Event, Tests, Assigns, Finds, Side, OfSlot, OfNumber, OfNull, OfOther, side_fact, compare_fact, target_slots}

-- what is known at a place (A), and what is noted of checks on the way (M)
pub record Ops (A M : Type 0) : Type 0 where
  pub either : A → A → A  -- what two places together know
  pub after : Event → A → A  -- what is known behind an event
  pub nowhere : A  -- no walk comes
  pub sure : A  -- a walk comes, and each has met all
  pub guard : A → A → A  -- the second, where a walk comes to the first
  pub note : ℕ → A → M → M  -- what is noted of a check at which this is known

-- what a part makes of what is known at its start: what is known behind it, and what is noted of its checks
pub data Act (A M : Type 0) : Type 0 where
  Acts : (A → A) → (A → M → M) → Act A M

abbrev pub behind : {A M : Type 0} → Act A M → A → A
behind (Acts go note) = go

abbrev pub noted : {A M : Type 0} → Act A M → A → M → M
noted (Acts go note) = note

abbrev pub idle : {A M : Type 0} → Act A M
idle = Acts (λ w. w) (λ w m. m)

abbrev pub and_then : {A M : Type 0} → Act A M → Act A M → Act A M
and_then a b = Acts (λ w. behind b (behind a w)) (λ w m. noted b (behind a w) (noted a w m))

-- checks, in order
abbrev pub tests : {A M : Type 0} → Ops A M → List ℕ → Act A M
tests ops [] = idle
tests ops (id ∷ ids) = and_then (Acts (ops.after (Tests id)) (ops.note id)) (tests ops ids)

-- an assignment of slots, and the end of the function
abbrev pub assigns : {A M : Type 0} → Ops A M → List ℕ → Act A M
assigns ops slots = Acts (ops.after (Assigns slots)) (λ w m. m)

abbrev pub leaves : {A M : Type 0} → Ops A M → Act A M
leaves ops = Acts (λ w. ops.nowhere) (λ w m. m)

-- an expression: which side of a comparison it is, the facts on its edges; as a value; as a test, where it holds, where it fails, and what is noted
pub data Reading (A M : Type 0) : Type 0 where
  Reads : Side → (Bool → Option LinearForm) → Act A M → (A → A) → (A → A) → (A → M → M) → Reading A M

abbrev pub side_in : {A M : Type 0} → Reading A M → Side
side_in (Reads side facts value holds fails asked) = side

abbrev pub edges : {A M : Type 0} → Reading A M → Bool → Option LinearForm
edges (Reads side facts value holds fails asked) = facts

abbrev pub value_of : {A M : Type 0} → Reading A M → Act A M
value_of (Reads side facts value holds fails asked) = value

abbrev pub holds_of : {A M : Type 0} → Reading A M → A → A
holds_of (Reads side facts value holds fails asked) = holds

abbrev pub fails_of : {A M : Type 0} → Reading A M → A → A
fails_of (Reads side facts value holds fails asked) = fails

abbrev pub asked_of : {A M : Type 0} → Reading A M → A → M → M
asked_of (Reads side facts value holds fails asked) = asked

-- behind an edge of a branch on a leaf
abbrev pub on_edge : {A M : Type 0} → Ops A M → (Bool → Option LinearForm) → Bool → Act A M → A → A
on_edge ops facts holds value w = ops.after (Finds (facts holds)) (behind value w)

-- a leaf of tests: it is evaluated, and branched on
abbrev pub leaf_reading : {A M : Type 0} → Ops A M → Side → (Bool → Option LinearForm) → Act A M → Reading A M
leaf_reading ops side facts value = Reads side facts value (on_edge ops facts true value) (on_edge ops facts false value) (noted value)

abbrev pub plain_reading : {A M : Type 0} → Ops A M → Act A M → Reading A M
plain_reading ops value = leaf_reading ops OfOther (λ _. None) value

abbrev pub sum_act : {A M : Type 0} → PointerSum → Act A M → Act A M → Act A M
sum_act PointerPlus p i = and_then p i
sum_act PlusPointer p i = and_then i p
sum_act PointerMinus p i = and_then p i

-- `!` exchanges the edges of its test; each other operator is a leaf
abbrev pub unary_reading : {A M : Type 0} → Ops A M → Unary → Reading A M → Reading A M
unary_reading ops unary_op.Not a = Reads OfOther (λ _. None) (value_of a) (fails_of a) (holds_of a) (asked_of a)
unary_reading ops unary_op.Plus a = plain_reading ops (value_of a)
unary_reading ops unary_op.Negative a = plain_reading ops (value_of a)
unary_reading ops unary_op.Complement a = plain_reading ops (value_of a)
unary_reading ops unary_op.Cast a = plain_reading ops (value_of a)

-- `&&` and `||` as a value: one branch on the left side as its leaf. As a test their own leaves are taken apart
abbrev pub logical_reading : {A M : Type 0} → Ops A M → Logic → Reading A M → Reading A M → Reading A M
logical_reading ops logic_op.And a b =
    Reads OfOther (λ _. None)
    (Acts
    (λ w. ops.either (behind (value_of b) (on_edge ops (edges a) true (value_of a) w)) (on_edge ops (edges a) false (value_of a) w))
    (λ w m. noted (value_of b) (on_edge ops (edges a) true (value_of a) w) (noted (value_of a) w m)))
    (λ w. holds_of b (holds_of a w))
    (λ w. ops.either (fails_of a w) (fails_of b (holds_of a w)))
    (λ w m. asked_of b (holds_of a w) (asked_of a w m))
logical_reading ops logic_op.Or a b =
    Reads OfOther (λ _. None)
    (Acts
    (λ w. ops.either (on_edge ops (edges a) true (value_of a) w) (behind (value_of b) (on_edge ops (edges a) false (value_of a) w)))
    (λ w m. noted (value_of b) (on_edge ops (edges a) false (value_of a) w) (noted (value_of a) w m)))
    (λ w. ops.either (holds_of a w) (holds_of b (fails_of a w)))
    (λ w. fails_of b (fails_of a w))
    (λ w m. asked_of b (fails_of a w) (asked_of a w m))

-- one level of an expression
abbrev pub read_level : {A M : Type 0} → Ops A M → List Shape → E.CheckedExpr-F (Reading A M) → Reading A M
read_level ops slots (E.Number value scalar) = leaf_reading ops (OfNumber value scalar) (λ _. None) idle
read_level ops slots E.Null = leaf_reading ops OfNull (λ _. None) idle
read_level ops slots (E.Local slot) = leaf_reading ops (OfSlot slot) (side_fact slots (OfSlot slot)) idle
read_level ops slots (E.Block base) = plain_reading ops idle
read_level ops slots (E.Through pointer checks) = plain_reading ops (and_then (value_of pointer) (tests ops checks))
read_level ops slots (E.Element pointer index size checks) = plain_reading ops (and_then (value_of pointer) (and_then (value_of index) (tests ops checks)))
read_level ops slots (E.Field place offset checks) = plain_reading ops (and_then (value_of place) (tests ops checks))
read_level ops slots (E.Load scalar place) = plain_reading ops (value_of place)
read_level ops slots (E.AddressOf place) = plain_reading ops (value_of place)
read_level ops slots (E.Moved sum pointer by size checks) = plain_reading ops (and_then (sum_act sum (value_of pointer) (value_of by)) (tests ops checks))
read_level ops slots (E.Unary op scalar of) = unary_reading ops op of
read_level ops slots (E.Binary op scalar left right checks) = plain_reading ops (and_then (value_of left) (and_then (value_of right) (tests ops checks)))
read_level ops slots (E.Compare op scalar left right) =
    leaf_reading ops OfOther (compare_fact slots op (side_in left) (side_in right)) (and_then (value_of left) (value_of right))
read_level ops slots (E.Logical op left right) = logical_reading ops op left right

-- what an expression makes of what is known
unfoldable pub reading : {A M : Type 0} → Ops A M → List Shape → CheckedExpr → Reading A M
reading {A = A} {M = M} ops slots e = fold-CheckedExpr (Reading A M) (read_level ops slots) e

abbrev pub value_act : {A M : Type 0} → Ops A M → List Shape → CheckedExpr → Act A M
value_act ops slots e = value_of (reading ops slots e)

abbrev pub arguments_act : {A M : Type 0} → Ops A M → List Shape → List Argument → Act A M
arguments_act ops slots [] = idle
arguments_act ops slots (a ∷ rest) = and_then (value_act ops slots a.value) (arguments_act ops slots rest)

abbrev pub operand_act : {A M : Type 0} → Ops A M → List Shape → Option PointerOperand → Act A M
operand_act ops slots None = idle
operand_act ops slots (Some p) = value_act ops slots p.value

abbrev pub argument_act : {A M : Type 0} → Ops A M → List Shape → Option Argument → Act A M
argument_act ops slots None = idle
argument_act ops slots (Some a) = value_act ops slots a.value

-- a statement: what it makes of what is known, and what each loop in it makes of what is sure, in text order
pub data Passing (A M : Type 0) : Type 0 where
  Passes_by : Act A M → List A → Passing A M

abbrev pub act_of : {A M : Type 0} → Passing A M → Act A M
act_of (Passes_by act backs) = act

abbrev pub backs_of : {A M : Type 0} → Passing A M → List A
backs_of (Passes_by act backs) = backs

abbrev pub through : {A M : Type 0} → List (Passing A M) → A → A
through [] w = w
through (p ∷ ps) w = through ps (behind (act_of p) w)

abbrev pub telling : {A M : Type 0} → List (Passing A M) → A → M → M
telling [] w m = m
telling (p ∷ ps) w m = telling ps (behind (act_of p) w) (noted (act_of p) w m)

abbrev pub backs : {A M : Type 0} → List (Passing A M) → List A
backs [] = []
backs (p ∷ ps) = backs_of p ++ backs ps

-- what the body of a loop makes of what is sure at its test, and what is known at the test, from what is known where the loop is entered
abbrev pub back : {A M : Type 0} → Ops A M → Reading A M → List (Passing A M) → A
back ops t body = through body (holds_of t ops.sure)

abbrev pub head : {A M : Type 0} → Ops A M → A → A → A
head ops round w = ops.either w (ops.guard w round)

abbrev pub simple : {A M : Type 0} → Act A M → Passing A M
simple act = Passes_by act []

abbrev pub if_passing : {A M : Type 0} → Ops A M → Reading A M → List (Passing A M) → List (Passing A M) → Passing A M
if_passing ops t first second =
    Passes_by
    (Acts
    (λ w. ops.either (through first (holds_of t w)) (through second (fails_of t w)))
    (λ w m. telling second (fails_of t w) (telling first (holds_of t w) (asked_of t w m))))
    (backs first ++ backs second)

abbrev pub while_passing : {A M : Type 0} → Ops A M → Reading A M → List (Passing A M) → Passing A M
while_passing ops t body =
    Passes_by
    (Acts
    (λ w. fails_of t (head ops (back ops t body) w))
    (λ w m. telling body (holds_of t (head ops (back ops t body) w)) (asked_of t (head ops (back ops t body) w) m)))
    (back ops t body ∷ backs body)

abbrev pub pass_level : {A M : Type 0} → Ops A M → List Shape → S.CheckedStmt-F (Passing A M) → Passing A M
pass_level ops slots (S.Empty line) = simple idle
pass_level ops slots (S.Assign line slot scalar value checks) = simple (and_then (value_act ops slots value) (and_then (tests ops checks) (assigns ops (slot ∷ []))))
pass_level ops slots (S.AssignAutomatic line slot hidden value checks) =
    simple (and_then (value_act ops slots value.value) (and_then (tests ops checks) (assigns ops (slot ∷ (hidden ∷ ((hidden + 1) ∷ []))))))
pass_level ops slots (S.Store line scalar place value checks) = simple (and_then (value_act ops slots value) (and_then (value_act ops slots place) (tests ops checks)))
pass_level ops slots (S.Zero line place size) = simple (value_act ops slots place)
pass_level ops slots (S.Call line target function values checks) =
    simple (and_then (arguments_act ops slots values) (and_then (tests ops checks) (assigns ops (target_slots target))))
pass_level ops slots (S.Kernel line target name values pointer function elem size) =
    simple (and_then (arguments_act ops slots values) (and_then (operand_act ops slots pointer) (assigns ops (target_slots target))))
pass_level ops slots (S.Return line value checks) = simple (and_then (argument_act ops slots value) (and_then (tests ops checks) (leaves ops)))
pass_level ops slots (S.If line test first second) = if_passing ops (reading ops slots test) first second
pass_level ops slots (S.While line test body) = while_passing ops (reading ops slots test) body

unfoldable pub passing : {A M : Type 0} → Ops A M → List Shape → CheckedStmt → Passing A M
passing {A = A} {M = M} ops slots st = fold-CheckedStmt (Passing A M) (pass_level ops slots) st

abbrev pub passings : {A M : Type 0} → Ops A M → List Shape → List CheckedStmt → List (Passing A M)
passings ops slots ss = map (passing ops slots) ss
