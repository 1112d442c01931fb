-- The facts of a function: which inequalities are among them, and what a table says of each check.
use Rattle.std.proofs.Common.{◌≡◌, ◌⊎◌, inl, inr, ℕ, zero, suc, ◌+◌, ◌-◌, ◌*◌, ◌/◌, ◌≤◌, ◌<◌, ◌==◌, Bool, true, false, not, ◌&&◌, ◌||◌, leb, List, [], ◌∷◌, ◌++◌, map, length, get_or, drop, Contains, All, Option, Some, None, slice_get, if◌then◌else◌, refl, sym, ap, ◌∙◌, subst, arith, drop-cons, add-one, append_assoc}
use Rattle.std.specs.declared.cmp.Ordering.TheVariants.{Equal}
use Rattle.std.specs.Ordering.{is_lt, int_cmp}
use Rattle.std.specs.Cmp.{IsTotalOrder}
use Rattle.std.specs.Cmp.Lexicographic.{options_total}
use Rattle.std.specs.List.{flat_map, list_any, list_all, AllWithin}
use Rattle.std.specs.List.Sorted.{IsPermutation, IsPartitionedBy}
use Rattle.std.proofs.lemmas.Cmp.{on_total, then_total}
use Rattle.std.proofs.lemmas.List.{append-nil}
use Rattle.std.proofs.lemmas.List.Concat.{flat_map-append}
use Rattle.std.proofs.lemmas.Bool.Decides.{eqb_tells}
use Rattle.std.proofs.lemmas.List.Elements.{Contains-append_left, Contains-append_right, Contains-append_cases}
use Rattle.std.proofs.lemmas.List.Sorted.{Contains-permutation, IsPermutation-sym}
use Rattle.std.proofs.lemmas.Option.{slice_get_cases, slice_get_within, get_or_from_slice_get}
use Rattle.dep_expr.specs.Linear.{LinearForm}
use Rattle.dep_expr.specs.declared.inequality.Ineq.{Ineq}
use Rattle.checked_tree.specs.declared.checks.Check.{Check}
use Rattle.checked_tree.specs.declared.units.CheckedFn.{CheckedFn}
use Rattle.checked_tree.specs.Redundant.{cond_inequality, check_inequality, is_over_locals, slots_of, guard_terms}
use Rattle.check_elim.specs.declared.table.CheckFact.{CheckFact}
use Rattle.check_elim.specs.declared.table.Inequalities.{Inequalities}
use Rattle.check_elim.specs.Order.{form_cmp, guard_cmp, fact_cmp, terms_cmp, IsInOrder}
use Rattle.check_elim.specs.Sets.{own_at, inequality_at, IsOwn, IsMask, mask_at, speaks_of, AreInequalities}
use Rattle.check_elim.specs.Bits.{has}
use Rattle.check_elim.specs.Tables.{reads_none, slots_in, own_list, fact_list, found, AreSorted, IsCheckFact}
use Rattle.check_elim.proofs.Orders.{form_total, terms_equal, int_equal, then_equal, first_lt}
use Rattle.check_elim.proofs.Searching.{stands, parted, neither, itself}

pub any_append : {X : Type 0} (p : X → Bool) (xs ys : List X) → list_any p (xs ++ ys) ≡ (list_any p xs || list_any p ys)
any_append p [] ys = refl
any_append p (x ∷ xs) ys = ap (λ b. p x || b) (any_append p xs ys) ∙ or_assoc (p x) (list_any p xs) (list_any p ys)
  where
    or_assoc : (a b c : Bool) → (a || (b || c)) ≡ ((a || b) || c)
    or_assoc true b c = refl
    or_assoc false b c = refl

-- ---- the order of facts
pub fact_total : IsTotalOrder fact_cmp
unfolding fact_cmp
fact_total = then_total (on_total (λ (i : Ineq). i.left) form_total) (on_total (λ (i : Ineq). i.guard) (options_total form_total))

form_equal : (a b : LinearForm) → form_cmp a b ≡ Equal → a ≡ b
form_equal a b h =
    let p = then_equal (terms_cmp a.terms b.terms) (int_cmp a.constant b.constant) h in
    let x = terms_equal a.terms b.terms p.0 in
    let y = int_equal a.constant b.constant p.1 in
    λ i. record { terms = x i; constant = y i }

guard_equal : (g h : Option LinearForm) → guard_cmp g h ≡ Equal → g ≡ h
guard_equal None None e = refl
guard_equal None (Some h) e = absurd cc
guard_equal (Some g) None e = absurd cc
guard_equal (Some g) (Some h) e = ap (λ x. Some x) (form_equal g h e)

pub fact_equal : (a b : Ineq) → fact_cmp a b ≡ Equal → a ≡ b
unfolding fact_cmp
fact_equal a b h =
    let p = then_equal (form_cmp a.left b.left) (guard_cmp a.guard b.guard) h in
    let x = form_equal a.left b.left p.0 in
    let y = guard_equal a.guard b.guard p.1 in
    λ i. record { left = x i; guard = y i }

-- facts in order are so by terms and constants
pub in_order : (list : List Ineq) → AreSorted list → IsInOrder list
unfolding IsInOrder AreSorted fact_cmp
in_order list sorted i j d low high =
    first_lt (form_cmp (get_or list j d).left (get_or list i d).left) (guard_cmp (get_or list j d).guard (get_or list i d).guard) (sorted i j d low high)

-- ---- what is found in checks
found_here : (f : CheckedFn) (o : Option Ineq) (i : Ineq) → o ≡ Some i → is_over_locals f i ≡ true → Contains (own_list f o) i
found_here f o i is over =
    subst (λ (x : Option Ineq). Contains (own_list f x) i) (sym is) (subst (λ (b : Bool). Contains (if b then i ∷ [] else []) i) (sym over) (0, omega arith, refl))

pub found_all : (f : CheckedFn) (cs : List Check) (place : ℕ) (c : Check) (i : Ineq) → slice_get cs place ≡ Some c → cond_inequality c.cond ≡ Some i → is_over_locals f i ≡ true → Contains (found f cs) i
found_all f [] place c i at is over = absurd (let w = slice_get_within [] place c at in omega (arith, w))
found_all f (x ∷ xs) zero c i at is over =
    let same : x ≡ c = cc in
    Contains-append_left (fact_list f x) (found f xs) i (subst (λ (y : Check). Contains (fact_list f y) i) (sym same) (found_here f (cond_inequality c.cond) i is over))
found_all f (x ∷ xs) (suc place) c i at is over = Contains-append_right (fact_list f x) (found f xs) i (found_all f xs place c i at is over)

over_own : (f : CheckedFn) (o : Option Ineq) (i : Ineq) → Contains (own_list f o) i → is_over_locals f i ≡ true
over_own f None i c = absurd (omega (arith, c.1))
over_own f (Some j) i c = by (is_over_locals f j) refl c
  where
    by : (b : Bool) → is_over_locals f j ≡ b → Contains (if b then j ∷ [] else []) i → is_over_locals f i ≡ true
    by false e h = absurd (omega (arith, h.1))
    by true e h = one h.0 h.1 h.2
      where
        one : (k : ℕ) → k < 1 → get_or (j ∷ []) k i ≡ i → is_over_locals f i ≡ true
        one zero low same = ap (is_over_locals f) (sym same) ∙ e
        one (suc k) low same = absurd (omega (arith, low))

pub found_over : (f : CheckedFn) (cs : List Check) (i : Ineq) → Contains (found f cs) i → is_over_locals f i ≡ true
found_over f [] i c = absurd (omega (arith, c.1))
found_over f (x ∷ xs) i c = elim (Contains-append_cases (fact_list f x) (found f xs) i c) [ inl h ↦ over_own f (cond_inequality x.cond) i h | inr h ↦ found_over f xs i h ]

-- of facts in order
pub sorted_over : (f : CheckedFn) (old new : List Ineq) → old ≡ found f f.checks → IsPermutation old new → (j : ℕ) (i : Ineq) → slice_get new j ≡ Some i → is_over_locals f i ≡ true
sorted_over f old new is moved j i at = elim (slice_get_cases new j).1 [
  | inl p ↦
      let same : p.0 ≡ i = (let w = sym p.2 ∙ at in cc) in
      found_over f f.checks i (subst (λ (l : List Ineq). Contains l i) is (Contains-permutation new old i (IsPermutation-sym old new moved) (j, p.1, subst (λ (x : Ineq). get_or new j x ≡ x) same p.3)))
  | inr q ↦ absurd (let w = sym q.1 ∙ at in cc)
]

pub sorted_all : (f : CheckedFn) (old new : List Ineq) → old ≡ found f f.checks → IsPermutation old new → (i : Ineq) → Contains (found f f.checks) i → Contains new i
sorted_all f old new is moved i c = Contains-permutation old new i moved (subst (λ (l : List Ineq). Contains l i) (sym is) c)

-- ---- the search
module _ (list : List Ineq) (i : Ineq) (p : ℕ) (sorted : AreSorted list) (under : AllWithin (λ (y : Ineq). is_lt (fact_cmp y i) ≡ true) list 0 p) (over : AllWithin (λ (y : Ineq). is_lt (fact_cmp y i) ≡ false) list p (length list)) where
  point : (x : Ineq) → Contains list x → x ≡ i → (p < length list) × (get_or list p x ≡ i)
  unfolding AreSorted
  point = stands (λ (x : Ineq). x) fact_total fact_equal list i p sorted under over

  -- nothing stands at the point, or something behind the inequality: it is not there
  pub none_there : slice_get list p ≡ None → Contains list i → ⊥
  none_there none c = elim (slice_get_cases list p).1 [
    | inl q ↦ (let w = sym q.2 ∙ none in cc)
    | inr q ↦ omega (arith, q.0, (point i c refl).0)
  ]

  pub other_there : (fact : Ineq) → slice_get list p ≡ Some fact → is_lt (fact_cmp i fact) ≡ true → Contains list i → ⊥
  other_there fact at behind c =
      let same : fact ≡ i = sym (get_or_from_slice_get list p fact i at) ∙ (point i c refl).1 in
      let w : true ≡ false = sym behind ∙ (ap (λ (x : Ineq). is_lt (fact_cmp i x)) same ∙ itself (λ (x : Ineq). x) fact_total fact_equal i) in
      cc

  pub it_is_there : (fact : Ineq) → slice_get list p ≡ Some fact → is_lt (fact_cmp i fact) ≡ false → (p < length list) × (slice_get list p ≡ Some i)
  it_is_there fact at behind =
      let low = slice_get_within list p fact at in
      let before : is_lt (fact_cmp fact i) ≡ false = subst (λ (x : Ineq). is_lt (fact_cmp x i) ≡ false) (get_or_from_slice_get list p fact i at) (over p i (omega arith) low) in
      (low, at ∙ ap (λ x. Some x) (neither (λ (x : Ineq). x) fact_total fact_equal fact i before behind))

pub sorted_parted : (list : List Ineq) (i : Ineq) → AreSorted list → IsPartitionedBy (λ (y : Ineq). is_lt (fact_cmp y i)) list
unfolding AreSorted
sorted_parted list i sorted = parted (λ (x : Ineq). x) fact_total fact_equal list i sorted

-- ---- checks, one after another
pub pushed_at : {X : Type 0} (xs : List X) (y : X) (place : ℕ) → place ≡ length xs → slice_get (xs ++ y ∷ []) place ≡ Some y
pushed_at [] y zero e = refl
pushed_at [] y (suc n) e = absurd (omega (arith, e))
pushed_at (x ∷ xs) y zero e = absurd (omega (arith, e))
pushed_at (x ∷ xs) y (suc n) e = pushed_at xs y n (omega (arith, e))

pub pushed_before : {X : Type 0} (xs : List X) (y : X) (place : ℕ) (x : X) → (place ≡ length xs → ⊥) → slice_get (xs ++ y ∷ []) place ≡ Some x → slice_get xs place ≡ Some x
pushed_before [] y zero x apart h = absurd (apart refl)
pushed_before [] y (suc n) x apart h = h
pushed_before (z ∷ xs) y zero x apart h = h
pushed_before (z ∷ xs) y (suc n) x apart h = pushed_before xs y n x (λ e. apart (omega (arith, e))) h

pub own_missing : (f : CheckedFn) (list : List Ineq) (i : Ineq) → is_over_locals f i ≡ false → IsOwn f list (Some i) None
own_missing f list i h = h

-- ---- tables
pub asked_each : (f : CheckedFn) (list : List Ineq) (xs : List CheckFact) → length xs ≡ length f.checks
    → ((place : ℕ) (c : Check) (x : CheckFact) → slice_get f.checks place ≡ Some c → slice_get xs place ≡ Some x → IsCheckFact f list c x)
    → (place : ℕ) → (inequality_at (slice_get xs place) ≡ check_inequality (slice_get f.checks place)) × IsOwn f list (check_inequality (slice_get f.checks place)) (own_at (slice_get xs place))
unfolding IsCheckFact
asked_each f list xs count each place = by (slice_get f.checks place) (slice_get xs place) refl refl
  where
    by : (c : Option Check) (x : Option CheckFact) → slice_get f.checks place ≡ c → slice_get xs place ≡ x → (inequality_at x ≡ check_inequality c) × IsOwn f list (check_inequality c) (own_at x)
    by None None g h = (refl, tt)
    by (Some c) (Some x) g h = let k = each place c x g h in (k.inequality, k.own)
    by None (Some x) g h = elim (slice_get_cases f.checks place).1 [
      | inl p ↦ absurd (let w = sym p.2 ∙ g in cc)
      | inr q ↦ absurd (omega (arith, q.0, count, slice_get_within xs place x h))
    ]
    by (Some c) None g h = elim (slice_get_cases xs place).1 [
      | inl p ↦ absurd (let w = sym p.2 ∙ h in cc)
      | inr q ↦ absurd (omega (arith, q.0, count, slice_get_within f.checks place c g))
    ]

-- one more check
pub each_more : (f : CheckedFn) (list : List Ineq) (cs : List Check) (xs : List CheckFact) (k : ℕ) (d : Check) (y : CheckFact) → length xs ≡ k → k < length cs → IsCheckFact f list (get_or cs k d) y
    → ((place : ℕ) (c : Check) (x : CheckFact) → slice_get cs place ≡ Some c → slice_get xs place ≡ Some x → IsCheckFact f list c x)
    → (place : ℕ) (c : Check) (x : CheckFact) → slice_get cs place ≡ Some c → slice_get (xs ++ y ∷ []) place ≡ Some x → IsCheckFact f list c x
each_more f list cs xs k d y count low now before place c x at here = by (eqb_tells place k)
  where
    by : ((Rattle.std.proofs.Common.nat_eq place k ≡ true) × (place ≡ k)) ⊎ ((Rattle.std.proofs.Common.nat_eq place k ≡ false) × ((place ≡ k) → ⊥)) → IsCheckFact f list c x
    by (inl p) =
        let new : slice_get (xs ++ y ∷ []) place ≡ Some y = pushed_at xs y place (p.1 ∙ sym count) in
        let y_is : y ≡ x = (let w = sym new ∙ here in cc) in
        let c_is : get_or cs k d ≡ c = get_or_from_slice_get cs k c d (subst (λ (n : ℕ). slice_get cs n ≡ Some c) p.1 at) in
        subst (λ (z : CheckFact). IsCheckFact f list c z) y_is (subst (λ (z : Check). IsCheckFact f list z y) c_is now)
    by (inr p) = before place c x at (pushed_before xs y place x (λ e. p.1 (e ∙ count)) here)

-- ---- an inequality and its guard
all_append : {X : Type 0} (p : X → Bool) (xs ys : List X) → list_all p (xs ++ ys) ≡ (list_all p xs && list_all p ys)
all_append p [] ys = refl
all_append p (x ∷ xs) ys = ap (λ b. p x && b) (all_append p xs ys) ∙ and_assoc (p x) (list_all p xs) (list_all p ys)
  where
    and_assoc : (a b c : Bool) → (a && (b && c)) ≡ ((a && b) && c)
    and_assoc true b c = refl
    and_assoc false b c = refl

pub over_unguarded : (f : CheckedFn) (i : Ineq) → i.guard ≡ None → list_all (reads_none f) i.left.terms ≡ is_over_locals f i
unfolding is_over_locals
over_unguarded f i none = sym (all_append (reads_none f) i.left.terms (guard_terms i.guard) ∙ (ap (λ g. list_all (reads_none f) i.left.terms && list_all (reads_none f) (guard_terms g)) none ∙ by (list_all (reads_none f) i.left.terms)))
  where
    by : (a : Bool) → (a && true) ≡ a
    by true = refl
    by false = refl

pub over_guarded : (f : CheckedFn) (i : Ineq) (g : LinearForm) → i.guard ≡ Some g → (list_all (reads_none f) i.left.terms && list_all (reads_none f) g.terms) ≡ is_over_locals f i
unfolding is_over_locals
over_guarded f i g some = sym (all_append (reads_none f) i.left.terms (guard_terms i.guard) ∙ ap (λ h. list_all (reads_none f) i.left.terms && list_all (reads_none f) (guard_terms h)) some)

pub slots_unguarded : (f : CheckedFn) (i : Ineq) → i.guard ≡ None → flat_map (slots_in f) i.left.terms ≡ slots_of f i
unfolding slots_of
slots_unguarded f i none = sym (flat_map-append (slots_in f) i.left.terms (guard_terms i.guard) ∙ (ap (λ h. flat_map (slots_in f) i.left.terms ++ flat_map (slots_in f) (guard_terms h)) none ∙ append-nil (flat_map (slots_in f) i.left.terms)))

pub slots_guarded : (f : CheckedFn) (i : Ineq) (g : LinearForm) → i.guard ≡ Some g → flat_map (slots_in f) i.left.terms ++ flat_map (slots_in f) g.terms ≡ slots_of f i
unfolding slots_of
slots_guarded f i g some = sym (flat_map-append (slots_in f) i.left.terms (guard_terms i.guard) ∙ ap (λ h. flat_map (slots_in f) i.left.terms ++ flat_map (slots_in f) (guard_terms h)) some)

-- ---- the whole table
pub table_is : (f : CheckedFn) (t : Inequalities) (old : List Ineq) → old ≡ found f f.checks → IsPermutation old t.facts.items → AreSorted t.facts.items → length t.facts.items ≤ 64 * t.size
    → length t.checks.items ≡ length f.checks
    → ((place : ℕ) (c : Check) (x : CheckFact) → slice_get f.checks place ≡ Some c → slice_get t.checks.items place ≡ Some x → IsCheckFact f t.facts.items c x)
    → ((slot : ℕ) → IsMask t.size (slice_get t.masks.items slot)) → ((slot j : ℕ) → has (mask_at t.masks.items slot) j ≡ speaks_of f (slice_get t.facts.items j) slot) → AreInequalities f t
unfolding AreInequalities
table_is f t old is moved sorted room count each masks takes = record {
  room = room;
  order = in_order t.facts.items sorted;
  masks = masks;
  takes = takes;
  asked = λ place. (asked_each f t.facts.items t.checks.items count each place).0;
  own = λ place. (asked_each f t.facts.items t.checks.items count each place).1;
  over = sorted_over f old t.facts.items is moved;
}
