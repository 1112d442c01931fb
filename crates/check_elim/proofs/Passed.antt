-- What a statement makes of a way is what its flow and its parts make of it.
use Rattle.std.proofs.Common.{◌≡◌, ℕ, ◌+◌, true, false, List, [], ◌∷◌, map, Option, Some, None, refl, sym, ap, ◌∙◌, subst}
use Rattle.checked_tree.specs.declared.expressions.CheckedExpr.{CheckedExpr}
use Rattle.checked_tree.specs.declared.statements.Argument.{Argument}
use Rattle.checked_tree.specs.declared.statements.PointerOperand.{PointerOperand}
use Rattle.checked_tree.specs.declared.statements.CheckedStmt.{CheckedStmt, map-CheckedStmt, roll-CheckedStmt}
use Rattle.checked_tree.specs.declared.statements.CheckedStmt.TheOpen as S
use Rattle.checked_tree.specs.declared.statements.CheckedStmt.TheFolds.{fold-roll-CheckedStmt, ind-CheckedStmt}
use Rattle.checked_tree.specs.declared.units.CheckedFn.{CheckedFn}
use Rattle.checked_tree.specs.Flow.{Event, Assigns, Flow, Leaves, Ends, Meets, as_test, checked, seen, value_flow, arguments_flow, operand_flow, argument_flow, target_slots}
use Rattle.check_elim.specs.Ways as W
use Rattle.check_elim.specs.Ways.{Effect, Way, Nowhere, Sure, either, after, reached, exits, comes}
use Rattle.check_elim.specs.Direct as D
use Rattle.check_elim.specs.Direct.{Act, behind, noted, idle, and_then, tests, assigns, leaves, Reading, reading, holds_of, fails_of, asked_of, value_act, arguments_act, operand_act, argument_act, act_of}
use Rattle.check_elim.specs.One.{one_of}
use Rattle.check_elim.proofs.Laws.{either_assoc}
use Rattle.check_elim.proofs.Carrying.{Carries, expr_read, checks_carry, nothing, joined, either_comm}

pub right_nowhere : (a : Way) → either a Nowhere ≡ a
right_nowhere a = either_comm a Nowhere

module _ (f : CheckedFn) (does : Event → Effect) (id : ℕ) where
  abbrev ops : D.Ops Way Way
  ops = one_of does id

  pub record IsPassed (d : D.Passing Way Way) (p : W.Passing) : Type 0 where
    pub out : (w : Way) → behind (act_of d) w ≡ W.out_of p w
    pub met : (w m : Way) → noted (act_of d) w m ≡ either m (W.at_of p w)

  abbrev PassedStmt : Type 0
  PassedStmt = (st : CheckedStmt) × IsPassed (D.passing ops f.slots st) (W.passing f does id st)

  abbrev left : List PassedStmt → List (D.Passing Way Way)
  left l = map (λ k. D.passing ops f.slots k.0) l

  abbrev right : List PassedStmt → List W.Passing
  right l = map (λ k. W.passing f does id k.0) l

  through_same : (l : List PassedStmt) (w : Way) → D.through (left l) w ≡ W.through (right l) w
  through_same [] w = refl
  through_same (k ∷ l) w = ap (D.through (left l)) (k.1.out w) ∙ through_same l (W.out_of (W.passing f does id k.0) w)

  telling_same : (l : List PassedStmt) (w m : Way) → D.telling (left l) w m ≡ either m (W.coming (right l) w)
  telling_same [] w m = sym (right_nowhere m)
  telling_same (k ∷ l) w m =
      let out : Way = W.out_of (W.passing f does id k.0) w in
      let at : Way = W.at_of (W.passing f does id k.0) w in
      (λ i. D.telling (left l) (k.1.out w i) (k.1.met w m i)) ∙ (telling_same l out (either m at) ∙ either_assoc m at (W.coming (right l) out))

  -- the test of an `if` or a `while`
  abbrev test_flow : CheckedExpr → Flow
  test_flow e = as_test (seen f.slots e) (Leaves true) (Leaves false)

  abbrev read : CheckedExpr → Reading Way Way
  read e = reading ops f.slots e

  holds_same : (e : CheckedExpr) (w : Way) → exits does true (test_flow e) w ≡ holds_of (read e) w
  holds_same e w = (expr_read does id f.slots e).test.leaves true (Leaves true) (Leaves false) w ∙ right_nowhere (holds_of (read e) w)

  fails_same : (e : CheckedExpr) (w : Way) → exits does false (test_flow e) w ≡ fails_of (read e) w
  fails_same e w = (expr_read does id f.slots e).test.leaves false (Leaves true) (Leaves false) w

  pub asked_same : (e : CheckedExpr) (w m : Way) → either m (comes does id (test_flow e) w) ≡ asked_of (read e) w m
  asked_same e w m = (expr_read does id f.slots e).test.notes (Leaves true) (Leaves false) w m ∙ right_nowhere (asked_of (read e) w m)

  head_same : (e : CheckedExpr) (l : List PassedStmt) (w : Way) → D.head ops (D.back ops (read e) (left l)) w ≡ W.head (W.back_of does (test_flow e) (right l)) w
  head_same e l w = ap (λ x. either w (reached w x)) (through_same l (holds_of (read e) Sure) ∙ ap (W.through (right l)) (sym (holds_same e Sure)))

  -- parts of flows
  expr_carries : (e : CheckedExpr) → Carries does id (value_flow f e) (value_act ops f.slots e)
  expr_carries e = (expr_read does id f.slots e).value

  arguments_carry : (list : List Argument) → Carries does id (arguments_flow f list) (arguments_act ops f.slots list)
  arguments_carry [] = nothing does id
  arguments_carry (a ∷ rest) =
      joined does id (value_flow f a.value) (arguments_flow f rest) (value_act ops f.slots a.value) (arguments_act ops f.slots rest) (expr_carries a.value) (arguments_carry rest)

  operand_carries : (p : Option PointerOperand) → Carries does id (operand_flow f p) (operand_act ops f.slots p)
  operand_carries None = nothing does id
  operand_carries (Some p) = expr_carries p.value

  argument_carries : (a : Option Argument) → Carries does id (argument_flow f a) (argument_act ops f.slots a)
  argument_carries None = nothing does id
  argument_carries (Some a) = expr_carries a.value

  assigns_carry : (slots : List ℕ) → Carries does id (λ k. Meets (Assigns slots) k) (assigns ops slots)
  assigns_carry slots = record { leaves = λ b k w. refl; notes = λ k w m. refl }

  then_assigns : (p : Flow → Flow) (a : Act Way Way) (slots : List ℕ) → Carries does id p a → Carries does id (λ k. p (Meets (Assigns slots) k)) (and_then a (assigns ops slots))
  then_assigns p a slots c = joined does id p (λ k. Meets (Assigns slots) k) a (assigns ops slots) c (assigns_carry slots)

  checks_then_assigns : (ids slots : List ℕ) → Carries does id (λ k. checked ids (Meets (Assigns slots) k)) (and_then (tests ops ids) (assigns ops slots))
  checks_then_assigns ids slots = then_assigns (checked ids) (tests ops ids) slots (checks_carry does id ids)

  -- a statement that leaves behind a part, and one that ends the function behind it
  left_behind : (p : Flow → Flow) (a : Act Way Way) → Carries does id p a → IsPassed (D.simple a) (W.simple does id (p (Leaves true)))
  left_behind p a c = record {
    out = λ w. sym ((λ i. either (c.leaves true (Leaves true) w i) (c.leaves false (Leaves true) w i)) ∙ right_nowhere (behind a w));
    met = λ w m. sym (c.notes (Leaves true) w m ∙ right_nowhere (noted a w m));
  }

  ended_behind : (p : Flow → Flow) (a : Act Way Way) → Carries does id p a → IsPassed (D.simple (and_then a (leaves ops))) (W.simple does id (p Ends))
  ended_behind p a c = record {
    out = λ w. sym (λ i. either (c.leaves true Ends w i) (c.leaves false Ends w i));
    met = λ w m. sym (c.notes Ends w m ∙ right_nowhere (noted a w m));
  }

  form_passed : (x : S.CheckedStmt-F PassedStmt)
      → IsPassed (D.pass_level ops f.slots (map-CheckedStmt PassedStmt (D.Passing Way Way) (λ k. D.passing ops f.slots k.0) x))
      (W.stmt_level f does id (map-CheckedStmt PassedStmt W.Passing (λ k. W.passing f does id k.0) x))
  form_passed (S.Empty line) = left_behind (λ k. k) idle (nothing does id)
  form_passed (S.Assign line slot scalar value checks) =
      left_behind (λ k. value_flow f value (checked checks (Meets (Assigns (slot ∷ [])) k)))
      (and_then (value_act ops f.slots value) (and_then (tests ops checks) (assigns ops (slot ∷ []))))
      (joined does id (value_flow f value) (λ k. checked checks (Meets (Assigns (slot ∷ [])) k)) (value_act ops f.slots value) (and_then (tests ops checks) (assigns ops (slot ∷ [])))
      (expr_carries value) (checks_then_assigns checks (slot ∷ [])))
  form_passed (S.AssignAutomatic line slot hidden value checks) =
      let slots : List ℕ = slot ∷ (hidden ∷ ((hidden + 1) ∷ [])) in
      left_behind (λ k. value_flow f value.value (checked checks (Meets (Assigns slots) k)))
      (and_then (value_act ops f.slots value.value) (and_then (tests ops checks) (assigns ops slots)))
      (joined does id (value_flow f value.value) (λ k. checked checks (Meets (Assigns slots) k)) (value_act ops f.slots value.value) (and_then (tests ops checks) (assigns ops slots))
      (expr_carries value.value) (checks_then_assigns checks slots))
  form_passed (S.Store line scalar place value checks) =
      left_behind (λ k. value_flow f value (value_flow f place (checked checks k)))
      (and_then (value_act ops f.slots value) (and_then (value_act ops f.slots place) (tests ops checks)))
      (joined does id (value_flow f value) (λ k. value_flow f place (checked checks k)) (value_act ops f.slots value) (and_then (value_act ops f.slots place) (tests ops checks))
      (expr_carries value) (joined does id (value_flow f place) (checked checks) (value_act ops f.slots place) (tests ops checks) (expr_carries place) (checks_carry does id checks)))
  form_passed (S.Zero line place size) = left_behind (value_flow f place) (value_act ops f.slots place) (expr_carries place)
  form_passed (S.Call line target function values checks) =
      left_behind (λ k. arguments_flow f values (checked checks (Meets (Assigns (target_slots target)) k)))
      (and_then (arguments_act ops f.slots values) (and_then (tests ops checks) (assigns ops (target_slots target))))
      (joined does id (arguments_flow f values) (λ k. checked checks (Meets (Assigns (target_slots target)) k)) (arguments_act ops f.slots values) (and_then (tests ops checks) (assigns ops (target_slots target)))
      (arguments_carry values) (checks_then_assigns checks (target_slots target)))
  form_passed (S.Kernel line target name values pointer function elem size) =
      left_behind (λ k. arguments_flow f values (operand_flow f pointer (Meets (Assigns (target_slots target)) k)))
      (and_then (arguments_act ops f.slots values) (and_then (operand_act ops f.slots pointer) (assigns ops (target_slots target))))
      (joined does id (arguments_flow f values) (λ k. operand_flow f pointer (Meets (Assigns (target_slots target)) k)) (arguments_act ops f.slots values)
      (and_then (operand_act ops f.slots pointer) (assigns ops (target_slots target)))
      (arguments_carry values) (then_assigns (operand_flow f pointer) (operand_act ops f.slots pointer) (target_slots target) (operand_carries pointer)))
  form_passed (S.Return line value checks) =
      ended_behind (λ k. argument_flow f value (checked checks k)) (and_then (argument_act ops f.slots value) (tests ops checks))
      (joined does id (argument_flow f value) (checked checks) (argument_act ops f.slots value) (tests ops checks) (argument_carries value) (checks_carry does id checks))
  form_passed (S.If line e a b) =
      let r : Reading Way Way = read e in
      record {
        out = λ w. λ i. either ((through_same a (holds_of r w) ∙ ap (W.through (right a)) (sym (holds_same e w))) i) ((through_same b (fails_of r w) ∙ ap (W.through (right b)) (sym (fails_same e w))) i);
        met = λ w m.
            let one : Way = exits does true (test_flow e) w in
            let two : Way = exits does false (test_flow e) w in
            (λ i. D.telling (left b) (sym (fails_same e w) i) (D.telling (left a) (sym (holds_same e w) i) (sym (asked_same e w m) i)))
            ∙ (ap (D.telling (left b) two) (telling_same a one (either m (comes does id (test_flow e) w)))
            ∙ (telling_same b two (either (either m (comes does id (test_flow e) w)) (W.coming (right a) one))
            ∙ (either_assoc (either m (comes does id (test_flow e) w)) (W.coming (right a) one) (W.coming (right b) two)
            ∙ either_assoc m (comes does id (test_flow e) w) (either (W.coming (right a) one) (W.coming (right b) two)))));
      }
  form_passed (S.While line e a) =
      let r : Reading Way Way = read e in
      record {
        out = λ w. ap (fails_of r) (head_same e a w) ∙ sym (fails_same e (W.head (W.back_of does (test_flow e) (right a)) w));
        met = λ w m.
            let h : Way = W.head (W.back_of does (test_flow e) (right a)) w in
            (λ i. D.telling (left a) (holds_of r (head_same e a w i)) (asked_of r (head_same e a w i) m))
            ∙ ((λ i. D.telling (left a) (sym (holds_same e h) i) (sym (asked_same e h m) i))
            ∙ (telling_same a (exits does true (test_flow e) h) (either m (comes does id (test_flow e) h))
            ∙ either_assoc m (comes does id (test_flow e) h) (W.coming (right a) (exits does true (test_flow e) h))));
      }

  lists_same : {C : Type 0} (g : CheckedStmt → C) (l : List PassedStmt) → map g (map (λ (k : PassedStmt). k.0) l) ≡ map (λ (k : PassedStmt). g k.0) l
  lists_same g [] = refl
  lists_same g (k ∷ l) = ap (λ t. g k.0 ∷ t) (lists_same g l)

  same_form : {C : Type 0} (g : CheckedStmt → C) (x : S.CheckedStmt-F PassedStmt) → map-CheckedStmt CheckedStmt C g (map-CheckedStmt PassedStmt CheckedStmt (λ k. k.0) x) ≡ map-CheckedStmt PassedStmt C (λ k. g k.0) x
  same_form g (S.If line e a b) = λ i. S.If line e (lists_same g a i) (lists_same g b i)
  same_form g (S.While line e b) = λ i. S.While line e (lists_same g b i)
  same_form g (S.Empty line) = refl
  same_form g _ = refl

  pub stmt_passed : (st : CheckedStmt) → IsPassed (D.passing ops f.slots st) (W.passing f does id st)
  unfolding D.passing W.passing
  stmt_passed = ind-CheckedStmt (λ st. IsPassed (D.passing ops f.slots st) (W.passing f does id st)) (λ z x is. subst (λ l. IsPassed (D.passing ops f.slots (roll-CheckedStmt l)) (W.passing f does id (roll-CheckedStmt l))) is (by x))
    where
      by : (x : S.CheckedStmt-F PassedStmt) → IsPassed (D.passing ops f.slots (roll-CheckedStmt (map-CheckedStmt PassedStmt CheckedStmt (λ k. k.0) x))) (W.passing f does id (roll-CheckedStmt (map-CheckedStmt PassedStmt CheckedStmt (λ k. k.0) x)))
      by x =
          let y : S.CheckedStmt-F CheckedStmt = map-CheckedStmt PassedStmt CheckedStmt (λ k. k.0) x in
          let s = fold-roll-CheckedStmt (D.Passing Way Way) (D.pass_level ops f.slots) y ∙ ap (D.pass_level ops f.slots) (same_form (D.passing ops f.slots) x) in
          let r = fold-roll-CheckedStmt W.Passing (W.stmt_level f does id) y ∙ ap (W.stmt_level f does id) (same_form (W.passing f does id) x) in
          subst (λ (q : W.Passing). IsPassed (D.passing ops f.slots (roll-CheckedStmt y)) q) (sym r) (subst (λ (q : D.Passing Way Way). IsPassed q (W.stmt_level f does id (map-CheckedStmt PassedStmt W.Passing (λ k. W.passing f does id k.0) x))) (sym s) (form_passed x))

  paired : List CheckedStmt → List PassedStmt
  paired [] = []
  paired (st ∷ ss) = (st, stmt_passed st) ∷ paired ss

  left_is : (ss : List CheckedStmt) → left (paired ss) ≡ D.passings ops f.slots ss
  unfolding paired
  left_is [] = refl
  left_is (st ∷ ss) = ap (λ l. D.passing ops f.slots st ∷ l) (left_is ss)

  right_is : (ss : List CheckedStmt) → right (paired ss) ≡ W.passings f does id ss
  unfolding paired
  right_is [] = refl
  right_is (st ∷ ss) = ap (λ l. W.passing f does id st ∷ l) (right_is ss)

  -- what is noted of a check on the way through statements is how walks come to it
  pub told : (ss : List CheckedStmt) (w : Way) → D.telling (D.passings ops f.slots ss) w Nowhere ≡ W.coming (W.passings f does id ss) w
  told ss w = ap (λ l. D.telling l w Nowhere) (sym (left_is ss)) ∙ (telling_same (paired ss) w Nowhere ∙ ap (λ l. W.coming l w) (right_is ss))
