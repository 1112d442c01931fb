-- Two ways to know and to note that go alike give alike results.
use Rattle.std.proofs.Common.{◌≡◌, ℕ, ◌+◌, Bool, true, false, List, [], ◌∷◌, map, Option, Some, None, refl, sym, ap, ◌∙◌, subst}
use Rattle.dep_expr.specs.Linear.{LinearForm}
use Rattle.checked_tree.specs.declared.shapes.Shape.{Shape}
use Rattle.checked_tree.specs.declared.expressions.CheckedExpr.{CheckedExpr, map-CheckedExpr, roll-CheckedExpr}
use Rattle.checked_tree.specs.declared.expressions.CheckedExpr.TheOpen as E
use Rattle.checked_tree.specs.declared.expressions.CheckedExpr.TheFolds.{fold-roll-CheckedExpr, ind-CheckedExpr}
use Rattle.checked_tree.specs.declared.expressions.Logic.TheVariants as logic_op
use Rattle.checked_tree.specs.declared.expressions.PointerSum.{PointerSum}
use Rattle.checked_tree.specs.declared.expressions.PointerSum.TheVariants.{PointerPlus, PlusPointer, PointerMinus}
use Rattle.checked_tree.specs.declared.expressions.Unary.TheVariants as unary_op
use Rattle.checked_tree.specs.declared.statements.Argument.{Argument}
use Rattle.checked_tree.specs.declared.statements.PointerOperand.{PointerOperand}
use Rattle.checked_tree.specs.declared.statements.CheckedStmt.{CheckedStmt, map-CheckedStmt, roll-CheckedStmt}
use Rattle.checked_tree.specs.declared.statements.CheckedStmt.TheOpen as S
use Rattle.checked_tree.specs.declared.statements.CheckedStmt.TheFolds.{fold-roll-CheckedStmt, ind-CheckedStmt}
use Rattle.checked_tree.specs.Flow.{Event, Tests, Assigns, Finds, Side, OfSlot, OfNumber, OfNull, OfOther, side_fact, compare_fact, target_slots}
use Rattle.check_elim.specs.Direct.{Ops, Act, Acts, behind, noted, idle, and_then, tests, assigns, leaves, Reading, side_in, edges, value_of, holds_of, fails_of, asked_of, on_edge, leaf_reading, plain_reading, sum_act, read_level, reading, value_act, arguments_act, operand_act, argument_act, Passing, act_of, through, telling, back, head, pass_level, passing, passings}

pub record GoAlike {A M B N : Type 0} (o : Ops A M) (p : Ops B N) (R : A → B → Type 0) (Q : M → N → Type 0) : Type 0 where
  pub either : (a : A) (b : B) (c : A) (d : B) → R a b → R c d → R (o.either a c) (p.either b d)
  pub after : (e : Event) (a : A) (b : B) → R a b → R (o.after e a) (p.after e b)
  pub nowhere : R o.nowhere p.nowhere
  pub sure : R o.sure p.sure
  pub guard : (a : A) (b : B) (c : A) (d : B) → R a b → R c d → R (o.guard a c) (p.guard b d)
  pub note : (id : ℕ) (a : A) (b : B) (m : M) (n : N) → R a b → Q m n → Q (o.note id a m) (p.note id b n)

module _ {A M B N : Type 0} (o : Ops A M) (p : Ops B N) (R : A → B → Type 0) (Q : M → N → Type 0) (laws : GoAlike o p R Q) (slots : List Shape) where
  abbrev Same : (A → A) → (B → B) → Type 0
  Same f g = (a : A) (b : B) → R a b → R (f a) (g b)

  abbrev Notes : (A → M → M) → (B → N → N) → Type 0
  Notes f g = (a : A) (b : B) (m : M) (n : N) → R a b → Q m n → Q (f a m) (g b n)

  pub record ActAlike (x : Act A M) (y : Act B N) : Type 0 where
    pub go : Same (behind x) (behind y)
    pub note : Notes (noted x) (noted y)

  idle_alike : ActAlike idle idle
  idle_alike = record { go = λ a b h. h; note = λ a b m n h k. k }

  then_alike : (x u : Act A M) (y v : Act B N) → ActAlike x y → ActAlike u v → ActAlike (and_then x u) (and_then y v)
  then_alike x u y v s t = record {
    go = λ a b h. t.go (behind x a) (behind y b) (s.go a b h);
    note = λ a b m n h k. t.note (behind x a) (behind y b) (noted x a m) (noted y b n) (s.go a b h) (s.note a b m n h k);
  }

  tests_alike : (ids : List ℕ) → ActAlike (tests o ids) (tests p ids)
  tests_alike [] = idle_alike
  tests_alike (id ∷ ids) = then_alike (Acts (o.after (Tests id)) (o.note id)) (tests o ids) (Acts (p.after (Tests id)) (p.note id)) (tests p ids) (record { go = laws.after (Tests id); note = laws.note id }) (tests_alike ids)

  assigns_alike : (own : List ℕ) → ActAlike (assigns o own) (assigns p own)
  assigns_alike own = record { go = laws.after (Assigns own); note = λ a b m n h k. k }

  leaves_alike : ActAlike (leaves o) (leaves p)
  leaves_alike = record { go = λ a b h. laws.nowhere; note = λ a b m n h k. k }

  pub record ReadAlike (r : Reading A M) (q : Reading B N) : Type 0 where
    pub side : side_in r ≡ side_in q
    pub facts : edges r ≡ edges q
    pub value : ActAlike (value_of r) (value_of q)
    pub holds : Same (holds_of r) (holds_of q)
    pub fails : Same (fails_of r) (fails_of q)
    pub asked : Notes (asked_of r) (asked_of q)

  edge_alike : (f g : Bool → Option LinearForm) → f ≡ g → (x : Act A M) (y : Act B N) → ActAlike x y → (holds : Bool) → Same (on_edge o f holds x) (on_edge p g holds y)
  edge_alike f g same x y k holds a b h =
      subst (λ (l : Bool → Option LinearForm). R (on_edge o f holds x a) (on_edge p l holds y b)) same (laws.after (Finds (f holds)) (behind x a) (behind y b) (k.go a b h))

  leaf_alike : (side : Side) (f g : Bool → Option LinearForm) → f ≡ g → (x : Act A M) (y : Act B N) → ActAlike x y → ReadAlike (leaf_reading o side f x) (leaf_reading p side g y)
  leaf_alike side f g same x y k = record {
    side = refl;
    facts = same;
    value = k;
    holds = edge_alike f g same x y k true;
    fails = edge_alike f g same x y k false;
    asked = k.note;
  }

  plain_alike : (x : Act A M) (y : Act B N) → ActAlike x y → ReadAlike (plain_reading o x) (plain_reading p y)
  plain_alike x y k = leaf_alike OfOther (λ _. None) (λ _. None) refl x y k

  abbrev AlikeExpr : Type 0
  AlikeExpr = (e : CheckedExpr) × ReadAlike (reading o slots e) (reading p slots e)

  abbrev one : AlikeExpr → Act A M
  one k = value_of (reading o slots k.0)

  abbrev two : AlikeExpr → Act B N
  two k = value_of (reading p slots k.0)

  checked_alike : (ids : List ℕ) (x : Act A M) (y : Act B N) → ActAlike x y → ActAlike (and_then x (tests o ids)) (and_then y (tests p ids))
  checked_alike ids x y k = then_alike x (tests o ids) y (tests p ids) k (tests_alike ids)

  both_checked : (ids : List ℕ) (j k : AlikeExpr) → ActAlike (and_then (one j) (and_then (one k) (tests o ids))) (and_then (two j) (and_then (two k) (tests p ids)))
  both_checked ids j k = then_alike (one j) (and_then (one k) (tests o ids)) (two j) (and_then (two k) (tests p ids)) j.1.value (checked_alike ids (one k) (two k) k.1.value)

  sum_alike : (sum : PointerSum) (j k : AlikeExpr) → ActAlike (sum_act sum (one j) (one k)) (sum_act sum (two j) (two k))
  sum_alike PointerPlus j k = then_alike (one j) (one k) (two j) (two k) j.1.value k.1.value
  sum_alike PlusPointer j k = then_alike (one k) (one j) (two k) (two j) k.1.value j.1.value
  sum_alike PointerMinus j k = then_alike (one j) (one k) (two j) (two k) j.1.value k.1.value

  level_alike : (x : E.CheckedExpr-F AlikeExpr)
      → ReadAlike (read_level o slots (map-CheckedExpr AlikeExpr (Reading A M) (λ k. reading o slots k.0) x)) (read_level p slots (map-CheckedExpr AlikeExpr (Reading B N) (λ k. reading p slots k.0) x))
  level_alike (E.Number value scalar) = leaf_alike (OfNumber value scalar) (λ _. None) (λ _. None) refl idle idle idle_alike
  level_alike E.Null = leaf_alike OfNull (λ _. None) (λ _. None) refl idle idle idle_alike
  level_alike (E.Local slot) = leaf_alike (OfSlot slot) (side_fact slots (OfSlot slot)) (side_fact slots (OfSlot slot)) refl idle idle idle_alike
  level_alike (E.Block base) = plain_alike idle idle idle_alike
  level_alike (E.Through j checks) = plain_alike (and_then (one j) (tests o checks)) (and_then (two j) (tests p checks)) (checked_alike checks (one j) (two j) j.1.value)
  level_alike (E.Element j k size checks) = plain_alike (and_then (one j) (and_then (one k) (tests o checks))) (and_then (two j) (and_then (two k) (tests p checks))) (both_checked checks j k)
  level_alike (E.Field j offset checks) = plain_alike (and_then (one j) (tests o checks)) (and_then (two j) (tests p checks)) (checked_alike checks (one j) (two j) j.1.value)
  level_alike (E.Load scalar j) = plain_alike (one j) (two j) j.1.value
  level_alike (E.AddressOf j) = plain_alike (one j) (two j) j.1.value
  level_alike (E.Moved sum j k size checks) =
      plain_alike (and_then (sum_act sum (one j) (one k)) (tests o checks)) (and_then (sum_act sum (two j) (two k)) (tests p checks))
      (checked_alike checks (sum_act sum (one j) (one k)) (sum_act sum (two j) (two k)) (sum_alike sum j k))
  level_alike (E.Unary unary_op.Not scalar j) = record { side = refl; facts = refl; value = j.1.value; holds = j.1.fails; fails = j.1.holds; asked = j.1.asked }
  level_alike (E.Unary unary_op.Plus scalar j) = plain_alike (one j) (two j) j.1.value
  level_alike (E.Unary unary_op.Negative scalar j) = plain_alike (one j) (two j) j.1.value
  level_alike (E.Unary unary_op.Complement scalar j) = plain_alike (one j) (two j) j.1.value
  level_alike (E.Unary unary_op.Cast scalar j) = plain_alike (one j) (two j) j.1.value
  level_alike (E.Binary op scalar j k checks) = plain_alike (and_then (one j) (and_then (one k) (tests o checks))) (and_then (two j) (and_then (two k) (tests p checks))) (both_checked checks j k)
  level_alike (E.Compare op scalar j k) =
      leaf_alike OfOther (compare_fact slots op (side_in (reading o slots j.0)) (side_in (reading o slots k.0))) (compare_fact slots op (side_in (reading p slots j.0)) (side_in (reading p slots k.0)))
      (λ i. compare_fact slots op (j.1.side i) (k.1.side i))
      (and_then (one j) (one k)) (and_then (two j) (two k)) (then_alike (one j) (one k) (two j) (two k) j.1.value k.1.value)
  level_alike (E.Logical logic_op.And j k) =
      let r = reading o slots j.0 in
      let q = reading p slots j.0 in
      let s = reading o slots k.0 in
      let t = reading p slots k.0 in
      let yes = edge_alike (edges r) (edges q) j.1.facts (one j) (two j) j.1.value true in
      let no = edge_alike (edges r) (edges q) j.1.facts (one j) (two j) j.1.value false in
      record {
        side = refl;
        facts = refl;
        value = record {
          go = λ a b h. laws.either (behind (one k) (on_edge o (edges r) true (one j) a)) (behind (two k) (on_edge p (edges q) true (two j) b)) (on_edge o (edges r) false (one j) a) (on_edge p (edges q) false (two j) b)
              (k.1.value.go (on_edge o (edges r) true (one j) a) (on_edge p (edges q) true (two j) b) (yes a b h)) (no a b h);
          note = λ a b m n h l. k.1.value.note (on_edge o (edges r) true (one j) a) (on_edge p (edges q) true (two j) b) (noted (one j) a m) (noted (two j) b n) (yes a b h) (j.1.value.note a b m n h l);
        };
        holds = λ a b h. k.1.holds (holds_of r a) (holds_of q b) (j.1.holds a b h);
        fails = λ a b h. laws.either (fails_of r a) (fails_of q b) (fails_of s (holds_of r a)) (fails_of t (holds_of q b)) (j.1.fails a b h) (k.1.fails (holds_of r a) (holds_of q b) (j.1.holds a b h));
        asked = λ a b m n h l. k.1.asked (holds_of r a) (holds_of q b) (asked_of r a m) (asked_of q b n) (j.1.holds a b h) (j.1.asked a b m n h l);
      }
  level_alike (E.Logical logic_op.Or j k) =
      let r = reading o slots j.0 in
      let q = reading p slots j.0 in
      let s = reading o slots k.0 in
      let t = reading p slots k.0 in
      let yes = edge_alike (edges r) (edges q) j.1.facts (one j) (two j) j.1.value true in
      let no = edge_alike (edges r) (edges q) j.1.facts (one j) (two j) j.1.value false in
      record {
        side = refl;
        facts = refl;
        value = record {
          go = λ a b h. laws.either (on_edge o (edges r) true (one j) a) (on_edge p (edges q) true (two j) b) (behind (one k) (on_edge o (edges r) false (one j) a)) (behind (two k) (on_edge p (edges q) false (two j) b))
              (yes a b h) (k.1.value.go (on_edge o (edges r) false (one j) a) (on_edge p (edges q) false (two j) b) (no a b h));
          note = λ a b m n h l. k.1.value.note (on_edge o (edges r) false (one j) a) (on_edge p (edges q) false (two j) b) (noted (one j) a m) (noted (two j) b n) (no a b h) (j.1.value.note a b m n h l);
        };
        holds = λ a b h. laws.either (holds_of r a) (holds_of q b) (holds_of s (fails_of r a)) (holds_of t (fails_of q b)) (j.1.holds a b h) (k.1.holds (fails_of r a) (fails_of q b) (j.1.fails a b h));
        fails = λ a b h. k.1.fails (fails_of r a) (fails_of q b) (j.1.fails a b h);
        asked = λ a b m n h l. k.1.asked (fails_of r a) (fails_of q b) (asked_of r a m) (asked_of q b n) (j.1.fails a b h) (j.1.asked a b m n h l);
      }

  same_parts : {C : Type 0} (f : CheckedExpr → C) (x : E.CheckedExpr-F AlikeExpr) → map-CheckedExpr CheckedExpr C f (map-CheckedExpr AlikeExpr CheckedExpr (λ k. k.0) x) ≡ map-CheckedExpr AlikeExpr C (λ k. f k.0) x
  same_parts f E.Null = refl
  same_parts f _ = refl

  pub expr_alike : (e : CheckedExpr) → ReadAlike (reading o slots e) (reading p slots e)
  unfolding reading
  expr_alike = ind-CheckedExpr (λ e. ReadAlike (reading o slots e) (reading p slots e)) (λ z x is. subst (λ l. ReadAlike (reading o slots (roll-CheckedExpr l)) (reading p slots (roll-CheckedExpr l))) is (by x))
    where
      by : (x : E.CheckedExpr-F AlikeExpr) → ReadAlike (reading o slots (roll-CheckedExpr (map-CheckedExpr AlikeExpr CheckedExpr (λ k. k.0) x))) (reading p slots (roll-CheckedExpr (map-CheckedExpr AlikeExpr CheckedExpr (λ k. k.0) x)))
      by x =
          let y : E.CheckedExpr-F CheckedExpr = map-CheckedExpr AlikeExpr CheckedExpr (λ k. k.0) x in
          let s = fold-roll-CheckedExpr (Reading A M) (read_level o slots) y ∙ ap (read_level o slots) (same_parts (reading o slots) x) in
          let r = fold-roll-CheckedExpr (Reading B N) (read_level p slots) y ∙ ap (read_level p slots) (same_parts (reading p slots) x) in
          subst (λ (q : Reading B N). ReadAlike (reading o slots (roll-CheckedExpr y)) q) (sym r) (subst (λ (q : Reading A M). ReadAlike q (read_level p slots (map-CheckedExpr AlikeExpr (Reading B N) (λ k. reading p slots k.0) x))) (sym s) (level_alike x))

  value_alike : (e : CheckedExpr) → ActAlike (value_act o slots e) (value_act p slots e)
  value_alike e = (expr_alike e).value

  arguments_alike : (list : List Argument) → ActAlike (arguments_act o slots list) (arguments_act p slots list)
  arguments_alike [] = idle_alike
  arguments_alike (a ∷ rest) = then_alike (value_act o slots a.value) (arguments_act o slots rest) (value_act p slots a.value) (arguments_act p slots rest) (value_alike a.value) (arguments_alike rest)

  operand_alike : (x : Option PointerOperand) → ActAlike (operand_act o slots x) (operand_act p slots x)
  operand_alike None = idle_alike
  operand_alike (Some x) = value_alike x.value

  argument_alike : (x : Option Argument) → ActAlike (argument_act o slots x) (argument_act p slots x)
  argument_alike None = idle_alike
  argument_alike (Some x) = value_alike x.value

  abbrev PassAlike : Passing A M → Passing B N → Type 0
  PassAlike r q = ActAlike (act_of r) (act_of q)

  abbrev AlikeStmt : Type 0
  AlikeStmt = (st : CheckedStmt) × PassAlike (passing o slots st) (passing p slots st)

  abbrev left : List AlikeStmt → List (Passing A M)
  left l = map (λ k. passing o slots k.0) l

  abbrev right : List AlikeStmt → List (Passing B N)
  right l = map (λ k. passing p slots k.0) l

  through_alike : (l : List AlikeStmt) → Same (through (left l)) (through (right l))
  through_alike [] a b h = h
  through_alike (k ∷ l) a b h = through_alike l (behind (act_of (passing o slots k.0)) a) (behind (act_of (passing p slots k.0)) b) (k.1.go a b h)

  telling_alike : (l : List AlikeStmt) → Notes (telling (left l)) (telling (right l))
  telling_alike [] a b m n h k = k
  telling_alike (x ∷ l) a b m n h k =
      telling_alike l (behind (act_of (passing o slots x.0)) a) (behind (act_of (passing p slots x.0)) b) (noted (act_of (passing o slots x.0)) a m) (noted (act_of (passing p slots x.0)) b n) (x.1.go a b h) (x.1.note a b m n h k)

  abbrev round_one : CheckedExpr → List AlikeStmt → A
  round_one e l = back o (reading o slots e) (left l)

  abbrev round_two : CheckedExpr → List AlikeStmt → B
  round_two e l = back p (reading p slots e) (right l)

  head_alike : (e : CheckedExpr) (l : List AlikeStmt) → Same (head o (round_one e l)) (head p (round_two e l))
  head_alike e l a b h =
      let round = through_alike l (holds_of (reading o slots e) o.sure) (holds_of (reading p slots e) p.sure) ((expr_alike e).holds o.sure p.sure laws.sure) in
      laws.either a b (o.guard a (round_one e l)) (p.guard b (round_two e l)) h (laws.guard a b (round_one e l) (round_two e l) h round)

  checks_assign : (ids own : List ℕ) → ActAlike (and_then (tests o ids) (assigns o own)) (and_then (tests p ids) (assigns p own))
  checks_assign ids own = then_alike (tests o ids) (assigns o own) (tests p ids) (assigns p own) (tests_alike ids) (assigns_alike own)

  form_alike : (x : S.CheckedStmt-F AlikeStmt)
      → PassAlike (pass_level o slots (map-CheckedStmt AlikeStmt (Passing A M) (λ k. passing o slots k.0) x)) (pass_level p slots (map-CheckedStmt AlikeStmt (Passing B N) (λ k. passing p slots k.0) x))
  form_alike (S.Empty line) = idle_alike
  form_alike (S.Assign line slot scalar value checks) =
      then_alike (value_act o slots value) (and_then (tests o checks) (assigns o (slot ∷ []))) (value_act p slots value) (and_then (tests p checks) (assigns p (slot ∷ []))) (value_alike value) (checks_assign checks (slot ∷ []))
  form_alike (S.AssignAutomatic line slot hidden value checks) =
      let own : List ℕ = slot ∷ (hidden ∷ ((hidden + 1) ∷ [])) in
      then_alike (value_act o slots value.value) (and_then (tests o checks) (assigns o own)) (value_act p slots value.value) (and_then (tests p checks) (assigns p own)) (value_alike value.value) (checks_assign checks own)
  form_alike (S.Store line scalar place value checks) =
      then_alike (value_act o slots value) (and_then (value_act o slots place) (tests o checks)) (value_act p slots value) (and_then (value_act p slots place) (tests p checks)) (value_alike value)
      (checked_alike checks (value_act o slots place) (value_act p slots place) (value_alike place))
  form_alike (S.Zero line place size) = value_alike place
  form_alike (S.Call line target function values checks) =
      let own : List ℕ = target_slots target in
      then_alike (arguments_act o slots values) (and_then (tests o checks) (assigns o own)) (arguments_act p slots values) (and_then (tests p checks) (assigns p own)) (arguments_alike values) (checks_assign checks own)
  form_alike (S.Kernel line target name values pointer function elem size) =
      let own : List ℕ = target_slots target in
      then_alike (arguments_act o slots values) (and_then (operand_act o slots pointer) (assigns o own)) (arguments_act p slots values) (and_then (operand_act p slots pointer) (assigns p own)) (arguments_alike values)
      (then_alike (operand_act o slots pointer) (assigns o own) (operand_act p slots pointer) (assigns p own) (operand_alike pointer) (assigns_alike own))
  form_alike (S.Return line value checks) =
      then_alike (argument_act o slots value) (and_then (tests o checks) (leaves o)) (argument_act p slots value) (and_then (tests p checks) (leaves p)) (argument_alike value)
      (then_alike (tests o checks) (leaves o) (tests p checks) (leaves p) (tests_alike checks) leaves_alike)
  form_alike (S.If line e x y) =
      let k = expr_alike e in
      let r = reading o slots e in
      let q = reading p slots e in
      record {
        go = λ a b h. laws.either (through (left x) (holds_of r a)) (through (right x) (holds_of q b)) (through (left y) (fails_of r a)) (through (right y) (fails_of q b))
            (through_alike x (holds_of r a) (holds_of q b) (k.holds a b h)) (through_alike y (fails_of r a) (fails_of q b) (k.fails a b h));
        note = λ a b m n h c. telling_alike y (fails_of r a) (fails_of q b) (telling (left x) (holds_of r a) (asked_of r a m)) (telling (right x) (holds_of q b) (asked_of q b n)) (k.fails a b h)
            (telling_alike x (holds_of r a) (holds_of q b) (asked_of r a m) (asked_of q b n) (k.holds a b h) (k.asked a b m n h c));
      }
  form_alike (S.While line e x) =
      let k = expr_alike e in
      let r = reading o slots e in
      let q = reading p slots e in
      record {
        go = λ a b h. k.fails (head o (round_one e x) a) (head p (round_two e x) b) (head_alike e x a b h);
        note = λ a b m n h c. telling_alike x (holds_of r (head o (round_one e x) a)) (holds_of q (head p (round_two e x) b)) (asked_of r (head o (round_one e x) a) m) (asked_of q (head p (round_two e x) b) n)
            (k.holds (head o (round_one e x) a) (head p (round_two e x) b) (head_alike e x a b h)) (k.asked (head o (round_one e x) a) (head p (round_two e x) b) m n (head_alike e x a b h) c);
      }

  lists_same : {C : Type 0} (f : CheckedStmt → C) (l : List AlikeStmt) → map f (map (λ (k : AlikeStmt). k.0) l) ≡ map (λ (k : AlikeStmt). f k.0) l
  lists_same f [] = refl
  lists_same f (k ∷ l) = ap (λ t. f k.0 ∷ t) (lists_same f l)

  same_form : {C : Type 0} (f : CheckedStmt → C) (x : S.CheckedStmt-F AlikeStmt) → map-CheckedStmt CheckedStmt C f (map-CheckedStmt AlikeStmt CheckedStmt (λ k. k.0) x) ≡ map-CheckedStmt AlikeStmt C (λ k. f k.0) x
  same_form f (S.If line e a b) = λ i. S.If line e (lists_same f a i) (lists_same f b i)
  same_form f (S.While line e b) = λ i. S.While line e (lists_same f b i)
  same_form f (S.Empty line) = refl
  same_form f _ = refl

  pub stmt_alike : (st : CheckedStmt) → PassAlike (passing o slots st) (passing p slots st)
  unfolding passing
  stmt_alike = ind-CheckedStmt (λ st. PassAlike (passing o slots st) (passing p slots st)) (λ z x is. subst (λ l. PassAlike (passing o slots (roll-CheckedStmt l)) (passing p slots (roll-CheckedStmt l))) is (by x))
    where
      by : (x : S.CheckedStmt-F AlikeStmt) → PassAlike (passing o slots (roll-CheckedStmt (map-CheckedStmt AlikeStmt CheckedStmt (λ k. k.0) x))) (passing p slots (roll-CheckedStmt (map-CheckedStmt AlikeStmt CheckedStmt (λ k. k.0) x)))
      by x =
          let y : S.CheckedStmt-F CheckedStmt = map-CheckedStmt AlikeStmt CheckedStmt (λ k. k.0) x in
          let s = fold-roll-CheckedStmt (Passing A M) (pass_level o slots) y ∙ ap (pass_level o slots) (same_form (passing o slots) x) in
          let r = fold-roll-CheckedStmt (Passing B N) (pass_level p slots) y ∙ ap (pass_level p slots) (same_form (passing p slots) x) in
          subst (λ (q : Passing B N). PassAlike (passing o slots (roll-CheckedStmt y)) q) (sym r) (subst (λ (q : Passing A M). PassAlike q (pass_level p slots (map-CheckedStmt AlikeStmt (Passing B N) (λ k. passing p slots k.0) x))) (sym s) (form_alike x))

  pub all_alike : (ss : List CheckedStmt) → Notes (telling (passings o slots ss)) (telling (passings p slots ss))
  all_alike [] a b m n h k = k
  all_alike (st ∷ ss) a b m n h k =
      all_alike ss (behind (act_of (passing o slots st)) a) (behind (act_of (passing p slots st)) b) (noted (act_of (passing o slots st)) a m) (noted (act_of (passing p slots st)) b n) ((stmt_alike st).go a b h) ((stmt_alike st).note a b m n h k)
