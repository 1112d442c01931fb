-- Sets of lost facts: what is taken, given and marked.
use Rattle.std.proofs.Common.{◌≡◌, inl, inr, ℕ, zero, suc, ◌+◌, ◌-◌, ◌*◌, ◌<◌, ◌≤◌, ◌==◌, Bool, true, false, ◌&&◌, ◌||◌, nat_lt, nat_eq, List, [], ◌∷◌, length, drop, get_or, slice_set, slice_get, Option, Some, None, if◌then◌else◌, refl, sym, ap, ◌∙◌, arith, drop-cons, add-one}
use Rattle.std.specs.List.{list_any}
use Rattle.std.specs.Prelude.{replicate, slice_index_or, ◌/◌, ◌%◌}
use Rattle.std.specs.Int.{bit_at}
use Rattle.std.proofs.lemmas.Bool.Decides.{eqb_tells, leb_tells}
use Rattle.std.proofs.lemmas.List.{get_or-set_same, get_or-set_other, length-set, get_or-replicate, get_or_past, length-replicate}
use Rattle.std.proofs.lemmas.Nat.Bits.{bit_at-zero, bit_at_ones}
use Rattle.dep_expr.specs.Linear.{LinearForm}
use Rattle.dep_expr.specs.declared.inequality.Ineq.{Ineq}
use Rattle.checked_tree.specs.declared.units.CheckedFn.{CheckedFn}
use Rattle.checked_tree.specs.Eval.{check_of}
use Rattle.checked_tree.specs.Flow.{Event, Tests, Assigns, Finds}
use Rattle.checked_tree.specs.Redundant.{check_inequality, event_inequality, assigns_any, slots_of}
use Rattle.check_elim.specs.declared.table.Table.{Table}
use Rattle.check_elim.specs.declared.table.Table.TheVariants as table
use Rattle.check_elim.specs.declared.table.Inequalities.{Inequalities}
use Rattle.check_elim.specs.declared.table.Classes.{Classes}
use Rattle.check_elim.specs.Bits.{has, bit_is}
use Rattle.check_elim.specs.Ways.{Keeps, Way, after, reached}
use Rattle.check_elim.specs.Facts.{implies, gives, effect, effect_of, is_lost}
use Rattle.check_elim.specs.Sets.{Facts, way_of, ways, effect_in, gives_in, given, given_all, after_list, after_class, after_all, class_of, is_number, all_lost, guard_all, mask_at, speaks_of, asked_at, inequality_at, AreInequalities, Marking, mark_own, mark_one, own_fact}
use Rattle.check_elim.proofs.Laws.{after_nowhere}

-- ---- masks
pub more_masks : (mask : ℕ → Bool) (slots : List ℕ) (k : ℕ) (x y : Bool) → k < length slots → y ≡ (x || mask (get_or slots k 0)) → (y || list_any mask (drop (k + 1) slots)) ≡ (x || list_any mask (drop k slots))
more_masks mask slots k x y low is =
    ap (λ n. y || list_any mask (drop n slots)) (add-one k)
    ∙ (ap (λ b. b || list_any mask (drop (suc k) slots)) is ∙ (or_assoc x (mask (get_or slots k 0)) (list_any mask (drop (suc k) slots)) ∙ ap (λ l. x || list_any mask l) (sym (drop-cons slots k 0 low))))
  where
    or_assoc : (a b c : Bool) → ((a || b) || c) ≡ (a || (b || c))
    or_assoc true b c = refl
    or_assoc false b c = refl

pub or_none : (a : Bool) → (a || false) ≡ a
or_none true = refl
or_none false = refl

pub has_nothing : (j : ℕ) → has [] j ≡ false
unfolding has bit_is
has_nothing j = ap (λ x. nat_eq x 1) (bit_at-zero (j % 64))

each_zero : (n k : ℕ) → ◌≡◌ {A = ℕ} (slice_index_or (replicate n 0) k 0) 0
each_zero zero k = refl
each_zero (suc n) zero = refl
each_zero (suc n) (suc k) = each_zero n k

pub has_none : (n j : ℕ) → has (replicate n 0) j ≡ false
unfolding has bit_is
has_none n j = ap (λ w. nat_eq (bit_at w (j % 64)) 1) (each_zero n (j / 64)) ∙ ap (λ w. nat_eq w 1) (bit_at-zero (j % 64))

pub has_all : (n j : ℕ) → j < 64 * n → has (replicate n 18446744073709551615) j ≡ true
unfolding has bit_is
has_all n j low = ap (λ w. nat_eq (bit_at w (j % 64)) 1) (get_or-replicate n (j / 64) 18446744073709551615 0 (omega (arith, low))) ∙ ap (λ w. nat_eq w 1) (bit_at_ones 64 (j % 64) (omega arith))

pub all_are_lost : (n : ℕ) (words : List ℕ) → words ≡ replicate n 18446744073709551615 → ◌≡◌ {A = Facts} (ways true words) (all_lost n)
unfolding all_lost has bit_is
all_are_lost n words is = λ t j. (ap (λ l. way_of true (has l j)) is ∙ ap (way_of true) (by j)) t
  where
    by : (j : ℕ) → has (replicate n 18446744073709551615) j ≡ nat_lt j (64 * n)
    by j = elim (leb_tells (suc j) (64 * n)) [
      | inl p ↦ has_all n j p.1 ∙ sym p.0
      | inr p ↦ ap (λ w. nat_eq (bit_at w (j % 64)) 1) (get_or_past (replicate n 18446744073709551615) (j / 64) 0 (omega (arith, p.1, length-replicate {A = ℕ} n 18446744073709551615)))
          ∙ (ap (λ w. nat_eq w 1) (bit_at-zero (j % 64)) ∙ sym p.0)
    ]

-- ---- classes
given_way : (b x : Bool) → way_of true (if b then false else x) ≡ after (given b) (way_of true x)
given_way true true = refl
given_way true false = refl
given_way false x = refl

pub class_given : (t : Classes) (id k : ℕ) (r : Bool) (old new : List ℕ) → class_of t id ≡ Some k → ((j : ℕ) → has new j ≡ (if j == k then false else has old j))
    → ◌≡◌ {A = Facts} (ways r new) (after_class t (Tests id) (ways r old))
unfolding after_class
class_given t id k r old new is each = λ i j. (ap (way_of r) (each j) ∙ (by r (j == k) (has old j) ∙ ap (λ b. after (given b) (way_of r (has old j))) (turned j ∙ ap (is_number j) (sym is)))) i
  where
    by : (r b x : Bool) → way_of r (if b then false else x) ≡ after (given b) (way_of r x)
    by false true x = refl
    by false false x = refl
    by true b x = given_way b x

    turned : (j : ℕ) → (j == k) ≡ (k == j)
    turned j = elim (eqb_tells j k) [
      | inl p ↦ p.0 ∙ sym (elim (eqb_tells k j) [ inl q ↦ q.0 | inr q ↦ absurd (q.1 (sym p.1)) ])
      | inr p ↦ p.0 ∙ sym (elim (eqb_tells k j) [ inl q ↦ absurd (p.1 (sym q.1)) | inr q ↦ q.0 ])
    ]

pub no_class : (t : Classes) (id : ℕ) (w : Facts) → class_of t id ≡ None → w ≡ after_class t (Tests id) w
unfolding after_class
no_class t id w is = λ i j. ap (λ o. after (given (is_number j o)) (w j)) (sym is) i

-- a branch and an assignment meet no class
pub found_by_classes : (f : CheckedFn) (t : Table) (c : Classes) (fact : Option LinearForm) (w : Facts) → t ≡ table.Classes c → w ≡ after_all f t (Finds fact) w
unfolding after_all after_class
found_by_classes f t c fact w is = rw is refl

pub assigned_by_classes : (f : CheckedFn) (t : Table) (c : Classes) (slots : List ℕ) (w : Facts) → t ≡ table.Classes c → w ≡ after_all f t (Assigns slots) w
unfolding after_all after_class
assigned_by_classes f t c slots w is = rw is refl

-- ---- what is given
pub all_given : (list : List Ineq) (strong : Ineq) (old new : List ℕ) → ((j : ℕ) → has new j ≡ (if gives_in strong (slice_get list j) then false else has old j))
    → ◌≡◌ {A = Facts} (ways true new) (given_all list strong (ways true old))
unfolding given_all
all_given list strong old new each = λ t j. (ap (way_of true) (each j) ∙ given_way (gives_in strong (slice_get list j)) (has old j)) t

pub unreached_given : (list : List Ineq) (strong : Ineq) (words : List ℕ) → ◌≡◌ {A = Facts} (ways false words) (given_all list strong (ways false words))
unfolding given_all
unreached_given list strong words = λ t j. sym (after_nowhere (given (gives_in strong (slice_get list j)))) t

-- an event that gives, and takes nothing
pub told_all : (f : CheckedFn) (list : List Ineq) (e : Event) (strong : Ineq) (w : Facts) → event_inequality f e ≡ Some strong → ((slots : List ℕ) → assigns_any slots e ≡ false)
    → given_all list strong w ≡ after_list f list e w
unfolding given_all after_list effect_of
told_all f list e strong w is quiet = λ t j. ap (λ x. after x (w j)) (by (slice_get list j)) t
  where
    plain : (b : Bool) → given b ≡ effect b false
    plain true = refl
    plain false = refl

    by : (o : Option Ineq) → given (gives_in strong o) ≡ effect_in f o e
    by None = refl
    by (Some i) = plain (implies strong i) ∙ (λ t. effect (gives (sym is t) i) (sym (quiet (slots_of f i)) t))

pub told_nothing : (f : CheckedFn) (list : List Ineq) (e : Event) (w : Facts) → event_inequality f e ≡ None → ((slots : List ℕ) → assigns_any slots e ≡ false) → w ≡ after_list f list e w
unfolding after_list effect_of
told_nothing f list e w is quiet = λ t j. ap (λ x. after x (w j)) (by (slice_get list j)) t
  where
    by : (o : Option Ineq) → Keeps ≡ effect_in f o e
    by None = refl
    by (Some i) = λ t. effect (gives (sym is t) i) (sym (quiet (slots_of f i)) t)

pub asked_is : (f : CheckedFn) (t : Inequalities) (id : ℕ) → AreInequalities f t → asked_at t id ≡ check_inequality (check_of f id)
unfolding AreInequalities
asked_is f t id table = by (id == 0)
  where
    by : (b : Bool) → (if b then None else inequality_at (slice_get t.checks.items (id - 1))) ≡ check_inequality (if b then None else slice_get f.checks (id - 1))
    by true = refl
    by false = table.asked (id - 1)

-- ---- what is taken
taken_way : (r b x : Bool) → way_of r (x || b) ≡ after (effect false b) (way_of r x)
taken_way false true x = refl
taken_way false false x = refl
taken_way true true true = refl
taken_way true true false = refl
taken_way true false x = ap (way_of true) (or_none x)

none_speaks : (slots : List ℕ) → list_any (λ (slot : ℕ). false) slots ≡ false
none_speaks [] = refl
none_speaks (s ∷ ss) = none_speaks ss

pub all_taken : (f : CheckedFn) (t : Inequalities) (slots : List ℕ) (r : Bool) (old new : List ℕ) → AreInequalities f t
    → ((j : ℕ) → has new j ≡ (has old j || list_any (λ slot. has (mask_at t.masks.items slot) j) slots))
    → ◌≡◌ {A = Facts} (ways r new) (after_list f t.facts.items (Assigns slots) (ways r old))
unfolding AreInequalities after_list effect_of
all_taken f t slots r old new table each = λ k j. (one j) k
  where
    by : (o : Option Ineq) → effect false (list_any (speaks_of f o) slots) ≡ effect_in f o (Assigns slots)
    by None = ap (effect false) (none_speaks slots)
    by (Some i) = refl

    one : (j : ℕ) → ways r new j ≡ after (effect_in f (slice_get t.facts.items j) (Assigns slots)) (ways r old j)
    one j =
        ap (way_of r) (each j ∙ ap (λ (p : ℕ → Bool). has old j || list_any p slots) (λ k slot. table.takes slot j k))
        ∙ (taken_way r (list_any (speaks_of f (slice_get t.facts.items j)) slots) (has old j) ∙ ap (λ x. after x (ways r old j)) (by (slice_get t.facts.items j)))

-- ---- the head of a loop
pub guarded : (words : List ℕ) (w : Facts) → guard_all (ways true words) w ≡ w
unfolding guard_all
guarded words w = λ t j. by (has words j) (w j) t
  where
    by : (b : Bool) (x : Way) → reached (way_of true b) x ≡ x
    by true x = refl
    by false x = refl

-- ---- marks
no_room : (at n : ℕ) → n ≤ at → nat_lt at n ≡ false
no_room at n h = elim (leb_tells (suc at) n) [ inl p ↦ absurd (omega (arith, p.1, h)) | inr p ↦ p.0 ]

pub room : (at n : ℕ) → at < n → nat_lt at n ≡ true
room at n h = elim (leb_tells (suc at) n) [ inl p ↦ p.0 | inr p ↦ absurd (omega (arith, p.1, h)) ]

abbrev pub marks : List Bool → Marking
marks l = record { size = length l; at = λ place. get_or l place false }

unmarked : (place own : ℕ) (w : Facts) (m : Marking) → m.size ≤ place → mark_own place (Some own) w m ≡ m
unmarked place own w m h = λ i. record { size = m.size; at = λ k. by (k == place) (m.at k || is_lost (w own)) (m.at k) i }
  where
    by : (a x y : Bool) → (if a && nat_lt place m.size then x else y) ≡ y
    by true x y = ap (λ (c : Bool). if c then x else y) (no_room place m.size h)
    by false x y = refl

marked_one : (place own : ℕ) (w : Facts) (l : List Bool) → place < length l → (b : Bool) → b ≡ is_lost (w own)
    → ◌≡◌ {A = Marking} (marks (slice_set l place (get_or l place false || b))) (mark_own place (Some own) w (marks l))
marked_one place own w l low b is = λ i. record { size = length-set l place (get_or l place false || b) i; at = λ k. by k i }
  where
    by : (k : ℕ) → get_or (slice_set l place (get_or l place false || b)) k false ≡ (if k == place && nat_lt place (length l) then get_or l k false || is_lost (w own) else get_or l k false)
    by k = elim (eqb_tells k place) [
      | inl same ↦ rw same.0 (rw (room place (length l) low) (rw same.1 (get_or-set_same l place (get_or l place false || b) false low ∙ ap (λ c. get_or l place false || c) is)))
      | inr other ↦ rw other.0 (get_or-set_other l place k (get_or l place false || b) false other.1)
    ]

pub marked_at : (place own : ℕ) (w : Facts) (l new : List Bool) (b : Bool) → b ≡ is_lost (w own)
    → new ≡ (if nat_lt place (length l) then slice_set l place (get_or l place false || b) else l) → ◌≡◌ {A = Marking} (marks new) (mark_own place (Some own) w (marks l))
marked_at place own w l new b is same = elim (leb_tells (suc place) (length l)) [
  | inl p ↦ ap marks (same ∙ ap (λ (c : Bool). if c then slice_set l place (get_or l place false || b) else l) p.0) ∙ marked_one place own w l p.1 b is
  | inr p ↦ ap marks (same ∙ ap (λ (c : Bool). if c then slice_set l place (get_or l place false || b) else l) p.0) ∙ sym (unmarked place own w (marks l) (omega (arith, p.1)))
]

pub uncounted : (t : Table) (id : ℕ) (w : Facts) (l : List Bool) → length l ≤ 0 → mark_one t id w (marks l) ≡ marks l
unfolding mark_one
uncounted t id w l h = by (own_fact t id)
  where
    by : (o : Option ℕ) → mark_own (id - 1) o w (marks l) ≡ marks l
    by None = refl
    by (Some own) = unmarked (id - 1) own w (marks l) (omega (arith, h))
