-- What an expression makes of a way is what its flow makes of it.
use Rattle.std.proofs.Common.{◌≡◌, ℕ, ◌==◌, if◌then◌else◌, Bool, true, false, List, [], ◌∷◌, Option, None, refl, sym, ap, ◌∙◌, subst}
use Rattle.dep_expr.specs.Linear.{LinearForm}
use Rattle.checked_tree.specs.declared.shapes.Shape.{Shape}
use Rattle.checked_tree.specs.declared.expressions.CheckedExpr.{CheckedExpr, map-CheckedExpr, roll-CheckedExpr}
use Rattle.checked_tree.specs.declared.expressions.CheckedExpr.TheOpen as E
use Rattle.checked_tree.specs.declared.expressions.CheckedExpr.TheFolds.{fold-roll-CheckedExpr, ind-CheckedExpr}
use Rattle.checked_tree.specs.declared.expressions.Logic.TheVariants as logic_op
use Rattle.checked_tree.specs.declared.expressions.PointerSum.{PointerSum}
use Rattle.checked_tree.specs.declared.expressions.PointerSum.TheVariants.{PointerPlus, PlusPointer, PointerMinus}
use Rattle.checked_tree.specs.declared.expressions.Unary.TheVariants as unary_op
use Rattle.checked_tree.specs.Flow.{Event, Tests, Assigns, Finds, Passes, Flow, Leaves, Ends, Meets, Splits, Side, OfSlot, OfNumber, OfNull, OfOther, Seen, side_of, facts_of, as_value, as_test, checked, branch, leaf, seen, seen_level, side_fact, compare_fact, sum_flow}
use Rattle.check_elim.specs.Ways.{Effect, Way, Nowhere, Sure, Lost, either, after, exits, here, comes}
use Rattle.check_elim.specs.Direct.{Act, Acts, behind, noted, idle, and_then, tests, Reading, side_in, edges, value_of, holds_of, fails_of, asked_of, leaf_reading, plain_reading, sum_act, logical_reading, read_level, reading}
use Rattle.check_elim.specs.One.{one_of}
use Rattle.check_elim.proofs.Laws.{either_assoc, after_either}

pub either_comm : (a b : Way) → either a b ≡ either b a
either_comm Nowhere Nowhere = refl
either_comm Nowhere Sure = refl
either_comm Nowhere Lost = refl
either_comm Sure Nowhere = refl
either_comm Sure Sure = refl
either_comm Sure Lost = refl
either_comm Lost Nowhere = refl
either_comm Lost Sure = refl
either_comm Lost Lost = refl

-- two pairs, by their parts
pub crossed : (a b c d : Way) → either (either a b) (either c d) ≡ either (either a c) (either b d)
crossed a b c d =
    either_assoc a b (either c d) ∙ (ap (either a) (sym (either_assoc b c d) ∙ (ap (λ x. either x d) (either_comm b c) ∙ either_assoc c b d)) ∙ sym (either_assoc a c (either b d)))

-- three ways, the second of which comes last
turned : (a b c : Way) → either (either a b) c ≡ either a (either c b)
turned a b c = either_assoc a b c ∙ ap (either a) (either_comm b c)

module _ (does : Event → Effect) (id : ℕ) where
  pub exits_either : (b : Bool) (k : Flow) (v w : Way) → exits does b k (either v w) ≡ either (exits does b k v) (exits does b k w)
  exits_either true (Leaves true) v w = refl
  exits_either true (Leaves false) v w = refl
  exits_either false (Leaves true) v w = refl
  exits_either false (Leaves false) v w = refl
  exits_either b Ends v w = refl
  exits_either b (Meets e k) v w = ap (exits does b k) (after_either (does e) v w) ∙ exits_either b k (after (does e) v) (after (does e) w)
  exits_either b (Splits f g) v w =
      (λ i. either (exits_either b f v w i) (exits_either b g v w i)) ∙ crossed (exits does b f v) (exits does b f w) (exits does b g v) (exits does b g w)

  here_either : (e : Event) (v w : Way) → here id e (either v w) ≡ either (here id e v) (here id e w)
  here_either (Tests own) v w = by (own == id)
    where
      by : (b : Bool) → (if b then either v w else Nowhere) ≡ either (if b then v else Nowhere) (if b then w else Nowhere)
      by true = refl
      by false = refl
  here_either (Assigns x) v w = refl
  here_either (Finds x) v w = refl
  here_either Passes v w = refl

  pub comes_either : (k : Flow) (v w : Way) → comes does id k (either v w) ≡ either (comes does id k v) (comes does id k w)
  comes_either (Leaves b) v w = refl
  comes_either Ends v w = refl
  comes_either (Meets e k) v w =
      (λ i. either (here_either e v w i) ((ap (comes does id k) (after_either (does e) v w) ∙ comes_either k (after (does e) v) (after (does e) w)) i))
      ∙ crossed (here id e v) (here id e w) (comes does id k (after (does e) v)) (comes does id k (after (does e) w))
  comes_either (Splits f g) v w =
      (λ i. either (comes_either f v w i) (comes_either g v w i)) ∙ crossed (comes does id f v) (comes does id f w) (comes does id g v) (comes does id g w)

  -- a part of a flow makes this of a way, and notes so
  pub record Carries (part : Flow → Flow) (act : Act Way Way) : Type 0 where
    pub leaves : (b : Bool) (k : Flow) (w : Way) → exits does b (part k) w ≡ exits does b k (behind act w)
    pub notes : (k : Flow) (w m : Way) → either m (comes does id (part k) w) ≡ either (noted act w m) (comes does id k (behind act w))

  pub record CarriesTest (part : Flow → Flow → Flow) (holds fails : Way → Way) (asked : Way → Way → Way) : Type 0 where
    pub leaves : (b : Bool) (k l : Flow) (w : Way) → exits does b (part k l) w ≡ either (exits does b k (holds w)) (exits does b l (fails w))
    pub notes : (k l : Flow) (w m : Way) → either m (comes does id (part k l) w) ≡ either (asked w m) (either (comes does id k (holds w)) (comes does id l (fails w)))

  pub nothing : Carries (λ k. k) idle
  nothing = record { leaves = λ b k w. refl; notes = λ k w m. refl }

  pub joined : (p q : Flow → Flow) (v u : Act Way Way) → Carries p v → Carries q u → Carries (λ k. p (q k)) (and_then v u)
  joined p q v u a c = record {
    leaves = λ b k w. a.leaves b (q k) w ∙ c.leaves b k (behind v w);
    notes = λ k w m. a.notes (q k) w m ∙ c.notes k (behind v w) (noted v w m);
  }

  pub checks_carry : (ids : List ℕ) → Carries (checked ids) (tests (one_of does id) ids)
  checks_carry [] = nothing
  checks_carry (own ∷ ids) =
      let rest = checks_carry ids in
      record {
        leaves = λ b k w. rest.leaves b k (after (does (Tests own)) w);
        notes = λ k w m. sym (either_assoc m (here id (Tests own) w) (comes does id (checked ids k) (after (does (Tests own)) w))) ∙ rest.notes k (after (does (Tests own)) w) (either m (here id (Tests own) w));
      }

  pub leaf_carries : (facts : Bool → Option LinearForm) (p : Flow → Flow) (v : Act Way Way) → Carries p v
      → CarriesTest (λ k l. p (branch facts k l)) (λ w. after (does (Finds (facts true))) (behind v w)) (λ w. after (does (Finds (facts false))) (behind v w)) (noted v)
  leaf_carries facts p v a = record { leaves = λ b k l w. a.leaves b (branch facts k l) w; notes = λ k l w m. a.notes (branch facts k l) w m }

  pub swapped : (p : Flow → Flow → Flow) (h f : Way → Way) (t : Way → Way → Way) → CarriesTest p h f t → CarriesTest (λ k l. p l k) f h t
  swapped p h f t a = record {
    leaves = λ b k l w. a.leaves b l k w ∙ either_comm (exits does b l (h w)) (exits does b k (f w));
    notes = λ k l w m. a.notes l k w m ∙ ap (either (t w m)) (either_comm (comes does id l (h w)) (comes does id k (f w)));
  }

  -- behind the edges of a branch
  abbrev yes : (Bool → Option LinearForm) → Act Way Way → Way → Way
  yes facts v w = after (does (Finds (facts true))) (behind v w)

  abbrev no : (Bool → Option LinearForm) → Act Way Way → Way → Way
  no facts v w = after (does (Finds (facts false))) (behind v w)

  pub and_carries : (facts : Bool → Option LinearForm) (p q : Flow → Flow) (v u : Act Way Way) → Carries p v → Carries q u
      → Carries (λ k. p (branch facts (q k) k)) (Acts (λ w. either (behind u (yes facts v w)) (no facts v w)) (λ w m. noted u (yes facts v w) (noted v w m)))
  and_carries facts p q v u a c = record {
    leaves = λ b k w. a.leaves b (branch facts (q k) k) w
        ∙ (ap (λ x. either x (exits does b k (no facts v w))) (c.leaves b k (yes facts v w)) ∙ sym (exits_either b k (behind u (yes facts v w)) (no facts v w)));
    notes = λ k w m. a.notes (branch facts (q k) k) w m
        ∙ (sym (either_assoc (noted v w m) (comes does id (q k) (yes facts v w)) (comes does id k (no facts v w)))
        ∙ (ap (λ x. either x (comes does id k (no facts v w))) (c.notes k (yes facts v w) (noted v w m))
        ∙ (either_assoc (noted u (yes facts v w) (noted v w m)) (comes does id k (behind u (yes facts v w))) (comes does id k (no facts v w))
        ∙ ap (either (noted u (yes facts v w) (noted v w m))) (sym (comes_either k (behind u (yes facts v w)) (no facts v w))))));
  }

  pub or_carries : (facts : Bool → Option LinearForm) (p q : Flow → Flow) (v u : Act Way Way) → Carries p v → Carries q u
      → Carries (λ k. p (branch facts k (q k))) (Acts (λ w. either (yes facts v w) (behind u (no facts v w))) (λ w m. noted u (no facts v w) (noted v w m)))
  or_carries facts p q v u a c = record {
    leaves = λ b k w. a.leaves b (branch facts k (q k)) w
        ∙ (ap (either (exits does b k (yes facts v w))) (c.leaves b k (no facts v w)) ∙ sym (exits_either b k (yes facts v w) (behind u (no facts v w))));
    notes = λ k w m. a.notes (branch facts k (q k)) w m
        ∙ (sym (turned (noted v w m) (comes does id (q k) (no facts v w)) (comes does id k (yes facts v w)))
        ∙ (ap (λ x. either x (comes does id k (yes facts v w))) (c.notes k (no facts v w) (noted v w m))
        ∙ (turned (noted u (no facts v w) (noted v w m)) (comes does id k (behind u (no facts v w))) (comes does id k (yes facts v w))
        ∙ ap (either (noted u (no facts v w) (noted v w m))) (sym (comes_either k (yes facts v w) (behind u (no facts v w)))))));
  }

  pub and_tests : (p q : Flow → Flow → Flow) (h f u g : Way → Way) (t s : Way → Way → Way) → CarriesTest p h f t → CarriesTest q u g s
      → CarriesTest (λ k l. p (q k l) l) (λ w. u (h w)) (λ w. either (f w) (g (h w))) (λ w m. s (h w) (t w m))
  and_tests p q h f u g t s a c = record {
    leaves = λ b k l w. a.leaves b (q k l) l w
        ∙ (ap (λ x. either x (exits does b l (f w))) (c.leaves b k l (h w))
        ∙ (turned (exits does b k (u (h w))) (exits does b l (g (h w))) (exits does b l (f w))
        ∙ ap (either (exits does b k (u (h w)))) (sym (exits_either b l (f w) (g (h w))))));
    notes = λ k l w m. a.notes (q k l) l w m
        ∙ (sym (either_assoc (t w m) (comes does id (q k l) (h w)) (comes does id l (f w)))
        ∙ (ap (λ x. either x (comes does id l (f w))) (c.notes k l (h w) (t w m))
        ∙ (either_assoc (s (h w) (t w m)) (either (comes does id k (u (h w))) (comes does id l (g (h w)))) (comes does id l (f w))
        ∙ ap (either (s (h w) (t w m))) (turned (comes does id k (u (h w))) (comes does id l (g (h w))) (comes does id l (f w)) ∙ ap (either (comes does id k (u (h w)))) (sym (comes_either l (f w) (g (h w))))))));
  }

  pub or_tests : (p q : Flow → Flow → Flow) (h f u g : Way → Way) (t s : Way → Way → Way) → CarriesTest p h f t → CarriesTest q u g s
      → CarriesTest (λ k l. p k (q k l)) (λ w. either (h w) (u (f w))) (λ w. g (f w)) (λ w m. s (f w) (t w m))
  or_tests p q h f u g t s a c = record {
    leaves = λ b k l w. a.leaves b k (q k l) w
        ∙ (ap (either (exits does b k (h w))) (c.leaves b k l (f w))
        ∙ (sym (either_assoc (exits does b k (h w)) (exits does b k (u (f w))) (exits does b l (g (f w))))
        ∙ ap (λ x. either x (exits does b l (g (f w)))) (sym (exits_either b k (h w) (u (f w))))));
    notes = λ k l w m. a.notes k (q k l) w m
        ∙ (sym (turned (t w m) (comes does id (q k l) (f w)) (comes does id k (h w)))
        ∙ (ap (λ x. either x (comes does id k (h w))) (c.notes k l (f w) (t w m))
        ∙ (turned (s (f w) (t w m)) (either (comes does id k (u (f w))) (comes does id l (g (f w)))) (comes does id k (h w))
        ∙ ap (either (s (f w) (t w m))) (sym (either_assoc (comes does id k (h w)) (comes does id k (u (f w))) (comes does id l (g (f w))))
        ∙ ap (λ x. either x (comes does id l (g (f w)))) (sym (comes_either k (h w) (u (f w))))))));
  }

  -- an expression's reading is what its flow does
  pub record IsRead (s : Seen) (r : Reading Way Way) : Type 0 where
    pub side : side_of s ≡ side_in r
    pub facts : facts_of s ≡ edges r
    pub value : Carries (as_value s) (value_of r)
    pub test : CarriesTest (as_test s) (holds_of r) (fails_of r) (asked_of r)

  leaf_read : (side : Side) (told facts : Bool → Option LinearForm) → told ≡ facts → (p : Flow → Flow) (v : Act Way Way) → Carries p v
      → IsRead (leaf side told p) (leaf_reading (one_of does id) side facts v)
  leaf_read side told facts same p v a = record {
    side = refl;
    facts = same;
    value = a;
    test = subst (λ (g : Bool → Option LinearForm). CarriesTest (λ k l. p (branch told k l)) (λ w. after (does (Finds (g true))) (behind v w)) (λ w. after (does (Finds (g false))) (behind v w)) (noted v)) same (leaf_carries told p v a);
  }

  plain_read : (p : Flow → Flow) (v : Act Way Way) → Carries p v → IsRead (leaf OfOther (λ _. None) p) (plain_reading (one_of does id) v)
  plain_read p v a = leaf_read OfOther (λ _. None) (λ _. None) refl p v a

  module _ (slots : List Shape) where
    abbrev read : CheckedExpr → Reading Way Way
    read e = reading (one_of does id) slots e

    abbrev ReadExpr : Type 0
    ReadExpr = (e : CheckedExpr) × IsRead (seen slots e) (read e)

    abbrev part : ReadExpr → Flow → Flow
    part x = as_value (seen slots x.0)

    abbrev act : ReadExpr → Act Way Way
    act x = value_of (read x.0)

    abbrev carry : (x : ReadExpr) → Carries (part x) (act x)
    carry x = x.1.value

    sum_carries : (sum : PointerSum) (p i : ReadExpr) → Carries (sum_flow sum (seen slots p.0) (seen slots i.0)) (sum_act sum (act p) (act i))
    sum_carries PointerPlus p i = joined (part p) (part i) (act p) (act i) (carry p) (carry i)
    sum_carries PlusPointer p i = joined (part i) (part p) (act i) (act p) (carry i) (carry p)
    sum_carries PointerMinus p i = joined (part p) (part i) (act p) (act i) (carry p) (carry i)

    with_checks : (ids : List ℕ) (p : Flow → Flow) (v : Act Way Way) → Carries p v → Carries (λ k. p (checked ids k)) (and_then v (tests (one_of does id) ids))
    with_checks ids p v c = joined p (checked ids) v (tests (one_of does id) ids) c (checks_carry ids)

    two_checked : (ids : List ℕ) (a b : ReadExpr) → Carries (λ k. part a (part b (checked ids k))) (and_then (act a) (and_then (act b) (tests (one_of does id) ids)))
    two_checked ids a b = joined (part a) (λ k. part b (checked ids k)) (act a) (and_then (act b) (tests (one_of does id) ids)) (carry a) (with_checks ids (part b) (act b) (carry b))

    and_read : (a b : ReadExpr)
        → Carries (λ k. part a (branch (facts_of (seen slots a.0)) (part b k) k)) (value_of (logical_reading (one_of does id) logic_op.And (read a.0) (read b.0)))
    and_read a b = subst (λ (g : Bool → Option LinearForm). Carries (λ k. part a (branch g (part b k) k)) (value_of (logical_reading (one_of does id) logic_op.And (read a.0) (read b.0)))) (sym a.1.facts)
        (and_carries (edges (read a.0)) (part a) (part b) (act a) (act b) (carry a) (carry b))

    or_read : (a b : ReadExpr)
        → Carries (λ k. part a (branch (facts_of (seen slots a.0)) k (part b k))) (value_of (logical_reading (one_of does id) logic_op.Or (read a.0) (read b.0)))
    or_read a b = subst (λ (g : Bool → Option LinearForm). Carries (λ k. part a (branch g k (part b k))) (value_of (logical_reading (one_of does id) logic_op.Or (read a.0) (read b.0)))) (sym a.1.facts)
        (or_carries (edges (read a.0)) (part a) (part b) (act a) (act b) (carry a) (carry b))

    level_read : (x : E.CheckedExpr-F ReadExpr)
        → IsRead (seen_level slots (map-CheckedExpr ReadExpr Seen (λ k. seen slots k.0) x)) (read_level (one_of does id) slots (map-CheckedExpr ReadExpr (Reading Way Way) (λ k. read k.0) x))
    level_read (E.Number value scalar) = leaf_read (OfNumber value scalar) (λ _. None) (λ _. None) refl (λ k. k) idle nothing
    level_read E.Null = leaf_read OfNull (λ _. None) (λ _. None) refl (λ k. k) idle nothing
    level_read (E.Local slot) = leaf_read (OfSlot slot) (side_fact slots (OfSlot slot)) (side_fact slots (OfSlot slot)) refl (λ k. k) idle nothing
    level_read (E.Block base) = plain_read (λ k. k) idle nothing
    level_read (E.Through p checks) = plain_read (λ k. part p (checked checks k)) (and_then (act p) (tests (one_of does id) checks)) (with_checks checks (part p) (act p) (carry p))
    level_read (E.Element p i size checks) = plain_read (λ k. part p (part i (checked checks k))) (and_then (act p) (and_then (act i) (tests (one_of does id) checks))) (two_checked checks p i)
    level_read (E.Field p offset checks) = plain_read (λ k. part p (checked checks k)) (and_then (act p) (tests (one_of does id) checks)) (with_checks checks (part p) (act p) (carry p))
    level_read (E.Load scalar p) = plain_read (part p) (act p) (carry p)
    level_read (E.AddressOf p) = plain_read (part p) (act p) (carry p)
    level_read (E.Moved sum p i size checks) =
        plain_read (λ k. sum_flow sum (seen slots p.0) (seen slots i.0) (checked checks k)) (and_then (sum_act sum (act p) (act i)) (tests (one_of does id) checks))
        (with_checks checks (sum_flow sum (seen slots p.0) (seen slots i.0)) (sum_act sum (act p) (act i)) (sum_carries sum p i))
    level_read (E.Unary unary_op.Not scalar a) = record {
      side = refl;
      facts = refl;
      value = carry a;
      test = swapped (as_test (seen slots a.0)) (holds_of (read a.0)) (fails_of (read a.0)) (asked_of (read a.0)) a.1.test;
    }
    level_read (E.Unary unary_op.Plus scalar a) = plain_read (part a) (act a) (carry a)
    level_read (E.Unary unary_op.Negative scalar a) = plain_read (part a) (act a) (carry a)
    level_read (E.Unary unary_op.Complement scalar a) = plain_read (part a) (act a) (carry a)
    level_read (E.Unary unary_op.Cast scalar a) = plain_read (part a) (act a) (carry a)
    level_read (E.Binary op scalar a b checks) = plain_read (λ k. part a (part b (checked checks k))) (and_then (act a) (and_then (act b) (tests (one_of does id) checks))) (two_checked checks a b)
    level_read (E.Compare op scalar a b) =
        leaf_read OfOther (compare_fact slots op (side_of (seen slots a.0)) (side_of (seen slots b.0))) (compare_fact slots op (side_in (read a.0)) (side_in (read b.0)))
        (λ i. compare_fact slots op (a.1.side i) (b.1.side i))
        (λ k. part a (part b k)) (and_then (act a) (act b)) (joined (part a) (part b) (act a) (act b) (carry a) (carry b))
    level_read (E.Logical logic_op.And a b) = record {
      side = refl;
      facts = refl;
      value = and_read a b;
      test = and_tests (as_test (seen slots a.0)) (as_test (seen slots b.0)) (holds_of (read a.0)) (fails_of (read a.0)) (holds_of (read b.0)) (fails_of (read b.0)) (asked_of (read a.0)) (asked_of (read b.0)) a.1.test b.1.test;
    }
    level_read (E.Logical logic_op.Or a b) = record {
      side = refl;
      facts = refl;
      value = or_read a b;
      test = or_tests (as_test (seen slots a.0)) (as_test (seen slots b.0)) (holds_of (read a.0)) (fails_of (read a.0)) (holds_of (read b.0)) (fails_of (read b.0)) (asked_of (read a.0)) (asked_of (read b.0)) a.1.test b.1.test;
    }

    same_parts : {A : Type 0} (f : CheckedExpr → A) (x : E.CheckedExpr-F ReadExpr) → map-CheckedExpr CheckedExpr A f (map-CheckedExpr ReadExpr CheckedExpr (λ k. k.0) x) ≡ map-CheckedExpr ReadExpr A (λ k. f k.0) x
    same_parts f E.Null = refl
    same_parts f _ = refl

    pub expr_read : (e : CheckedExpr) → IsRead (seen slots e) (reading (one_of does id) slots e)
    unfolding seen reading
    expr_read = ind-CheckedExpr (λ e. IsRead (seen slots e) (read e)) (λ z x is. subst (λ l. IsRead (seen slots (roll-CheckedExpr l)) (read (roll-CheckedExpr l))) is (by x))
      where
        by : (x : E.CheckedExpr-F ReadExpr) → IsRead (seen slots (roll-CheckedExpr (map-CheckedExpr ReadExpr CheckedExpr (λ k. k.0) x))) (read (roll-CheckedExpr (map-CheckedExpr ReadExpr CheckedExpr (λ k. k.0) x)))
        by x =
            let y : E.CheckedExpr-F CheckedExpr = map-CheckedExpr ReadExpr CheckedExpr (λ k. k.0) x in
            let s = fold-roll-CheckedExpr Seen (seen_level slots) y ∙ ap (seen_level slots) (same_parts (seen slots) x) in
            let r = fold-roll-CheckedExpr (Reading Way Way) (read_level (one_of does id) slots) y ∙ ap (read_level (one_of does id) slots) (same_parts read x) in
            subst (λ (q : Reading Way Way). IsRead (seen slots (roll-CheckedExpr y)) q) (sym r) (subst (λ (q : Seen). IsRead q (read_level (one_of does id) slots (map-CheckedExpr ReadExpr (Reading Way Way) (λ k. read k.0) x))) (sym s) (level_read x))
