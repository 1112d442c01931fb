-- The marks that the code makes are what the walks say.
use Rattle.std.proofs.Common.{◌≡◌, ◌≢◌, ◌⊎◌, ℕ, zero, suc, ◌-◌, ◌<◌, ◌≤◌, ◌==◌, Bool, true, false, ◌&&◌, ◌||◌, nat_lt, nat_eq, if◌then◌else◌, Option, Some, None, inl, inr, refl, sym, ap, ◌∙◌, subst, arith}
use Rattle.std.proofs.lemmas.Bool.Decides.{eqb_tells}
use Rattle.checked_tree.specs.declared.expressions.CheckedExpr.{CheckedExpr}
use Rattle.checked_tree.specs.declared.statements.CheckedStmt.{CheckedStmt}
use Rattle.checked_tree.specs.declared.units.CheckedFn.{CheckedFn}
use Rattle.checked_tree.specs.Flow.{Event, Tests, Leaves, as_test, seen}
use Rattle.check_elim.specs.declared.table.Table.{Table}
use Rattle.check_elim.specs.declared.table.Table.TheVariants as table
use Rattle.check_elim.specs.Ways.{Effect, Way, Nowhere, Sure, Lost, either, here, comes, comes_in}
use Rattle.check_elim.specs.Ways as W
use Rattle.check_elim.specs.Facts.{is_lost}
use Rattle.check_elim.specs.Direct.{passing, passings, telling, noted, act_of, reading, asked_of}
use Rattle.check_elim.specs.One.{one_of}
use Rattle.check_elim.specs.Sets.{Facts, Marking, does, mark_own, mark_one, own_fact, ops_of, either_all, after_all, after_list, after_class, guard_all, none, all_sure}
use Rattle.check_elim.proofs.Alike.{GoAlike, all_alike, stmt_alike, expr_alike}
use Rattle.check_elim.proofs.Passed.{told, right_nowhere, stmt_passed, asked_same}
use Rattle.check_elim.proofs.Lists.{room}

lost_either : (a b : Way) → is_lost (either a b) ≡ (is_lost a || is_lost b)
lost_either Nowhere b = refl
lost_either Sure Nowhere = refl
lost_either Sure Sure = refl
lost_either Sure Lost = refl
lost_either Lost b = refl

self : (n : ℕ) → (n == n) ≡ true
self n = elim (eqb_tells n n) [ inl p ↦ p.0 | inr p ↦ absurd (p.1 refl) ]

differ : (a b : ℕ) → a ≢ b → (a == b) ≡ false
differ a b h = elim (eqb_tells a b) [ inl p ↦ absurd (h p.1) | inr p ↦ p.0 ]

module _ (f : CheckedFn) (t : Table) (id j count : ℕ) (effect : Event → Effect) (is : (e : Event) → does f t j e ≡ effect e) (own : own_fact t id ≡ Some j) (numbered : 1 ≤ id) (within : id - 1 < count) where
  -- of all facts the one of the check, and of all marks its own
  abbrev R : Facts → Way → Type 0
  R w v = w j ≡ v

  abbrev Q : Marking → Way → Type 0
  Q m n = (m.size ≡ count) × (m.at (id - 1) ≡ is_lost n)

  own_note : (a : Facts) (b : Way) (m : Marking) (n : Way) → R a b → Q m n → Q (mark_own (id - 1) (Some j) a m) (either n b)
  own_note a b m n h q =
      let low : nat_lt (id - 1) m.size ≡ true = ap (nat_lt (id - 1)) q.0 ∙ room (id - 1) count within in (
        q.0,
        (λ k. if self (id - 1) k && low k then m.at (id - 1) || is_lost (a j) else m.at (id - 1))
            ∙ ((λ k. q.1 k || is_lost (h k)) ∙ sym (lost_either n b)),
      )

  no_own : (x : Table) → own_fact x 0 ≡ None
  no_own (table.Inequalities y) = refl
  no_own (table.Classes y) = refl

  other_note : (k : ℕ) (o : Option ℕ) → own_fact t k ≡ o → k ≢ id → (a : Facts) (m : Marking) (n : Way) → Q m n → Q (mark_own (k - 1) o a m) (either n Nowhere)
  other_note k None e apart a m n q = (q.0, q.1 ∙ ap is_lost (sym (right_nowhere n)))
  other_note zero (Some x) e apart a m n q = absurd (let w = sym (no_own t) ∙ e in cc)
  other_note (suc k) (Some x) e apart a m n q = (
    q.0,
    ap (λ (c : Bool). if c && nat_lt (suc k - 1) m.size then m.at (id - 1) || is_lost (a x) else m.at (id - 1)) (differ (id - 1) (suc k - 1) (λ z. apart (omega (arith, z, numbered))))
        ∙ (q.1 ∙ ap is_lost (sym (right_nowhere n))),
  )

  note_alike : (k : ℕ) (a : Facts) (b : Way) (m : Marking) (n : Way) → R a b → Q m n → Q (mark_one t k a m) (either n (here id (Tests k) b))
  unfolding mark_one
  note_alike k a b m n h q = by (eqb_tells k id)
    where
      by : ((nat_eq k id ≡ true) × (k ≡ id)) ⊎ ((nat_eq k id ≡ false) × (k ≢ id)) → Q (mark_own (k - 1) (own_fact t k) a m) (either n (if k == id then b else Nowhere))
      by (inl same) =
          subst (λ (c : Bool). Q (mark_own (k - 1) (own_fact t k) a m) (either n (if c then b else Nowhere))) (sym same.0)
          (subst (λ (x : ℕ). Q (mark_own (x - 1) (own_fact t x) a m) (either n b)) (sym same.1)
          (subst (λ (o : Option ℕ). Q (mark_own (id - 1) o a m) (either n b)) (sym own) (own_note a b m n h q)))
      by (inr other) =
          subst (λ (c : Bool). Q (mark_own (k - 1) (own_fact t k) a m) (either n (if c then b else Nowhere))) (sym other.0) (other_note k (own_fact t k) refl other.1 a m n q)

  behind_event : (x : Table) (e : Event) (w : Facts) → after_all f x e w j ≡ W.after (does f x j e) (w j)
  unfolding after_all after_list after_class does
  behind_event (table.Inequalities y) e w = refl
  behind_event (table.Classes y) e w = refl

  pub alike : GoAlike (ops_of f t) (one_of effect id) R Q
  unfolding either_all guard_all none all_sure
  alike = record {
    either = λ a b c d h k. λ x. either (h x) (k x);
    after = λ e a b h. behind_event t e a ∙ (λ x. W.after (is e x) (h x));
    nowhere = refl;
    sure = refl;
    guard = λ a b c d h k. λ x. W.reached (h x) (k x);
    note = note_alike;
  }

  -- third rule: where none of the facts is met at the entry, and no mark is made, the mark of the check is what the walks say
  pub marks_exact : (w : Facts) (m : Marking) → w j ≡ Lost → m.size ≡ count → m.at (id - 1) ≡ false
      → (telling (passings (ops_of f t) f.slots f.body) w m).at (id - 1) ≡ is_lost (comes_in f effect id)
  unfolding comes_in
  marks_exact w m h size unmarked =
      (all_alike (ops_of f t) (one_of effect id) R Q alike f.slots f.body w Lost m Nowhere h (size, unmarked)).1
      ∙ ap is_lost (told f effect id f.body Lost)

  -- second rule: on a statement by itself, and on the test of one
  kept_way : Bool → Way
  kept_way true = Lost
  kept_way false = Nowhere

  of_kept : (b : Bool) (v : Way) → is_lost (either (kept_way b) v) ≡ (b || is_lost v)
  unfolding kept_way
  of_kept true v = refl
  of_kept false v = refl

  of_alone : (b : Bool) → b ≡ is_lost (kept_way b)
  unfolding kept_way
  of_alone true = refl
  of_alone false = refl

  pub statement_exact : (st : CheckedStmt) (w : Facts) (m : Marking) → w j ≡ Lost → m.size ≡ count
      → ((noted (act_of (passing (ops_of f t) f.slots st)) w m).size ≡ count)
      × ((noted (act_of (passing (ops_of f t) f.slots st)) w m).at (id - 1) ≡ (m.at (id - 1) || is_lost (W.at_of (W.passing f effect id st) Lost)))
  statement_exact st w m h size =
      let b : Bool = m.at (id - 1) in
      let q = (stmt_alike (ops_of f t) (one_of effect id) R Q alike f.slots st).note w Lost m (kept_way b) h (size, of_alone b) in
      (q.0, q.1 ∙ (ap is_lost ((stmt_passed f effect id st).met Lost (kept_way b)) ∙ of_kept b (W.at_of (W.passing f effect id st) Lost)))

  pub test_exact : (e : CheckedExpr) (w : Facts) (m : Marking) → w j ≡ Lost → m.size ≡ count
      → ((asked_of (reading (ops_of f t) f.slots e) w m).size ≡ count)
      × ((asked_of (reading (ops_of f t) f.slots e) w m).at (id - 1) ≡ (m.at (id - 1) || is_lost (comes effect id (as_test (seen f.slots e) (Leaves true) (Leaves false)) Lost)))
  test_exact e w m h size =
      let b : Bool = m.at (id - 1) in
      let q = (expr_alike (ops_of f t) (one_of effect id) R Q alike f.slots e).asked w Lost m (kept_way b) h (size, of_alone b) in
      (q.0, q.1 ∙ (ap is_lost (sym (asked_same f effect id e Lost (kept_way b))) ∙ of_kept b (comes effect id (as_test (seen f.slots e) (Leaves true) (Leaves false)) Lost)))
