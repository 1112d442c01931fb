-- Codes of checks tell kind and condition, and the classes of a function's checks by their codes.
use Rattle.std.proofs.Common.{◌≡◌, inl, inr, ℕ, ◌*◌, ◌≤◌, ◌<◌, ◌==◌, Bool, true, false, not, List, [], ◌∷◌, ◌++◌, map, length, get_or, Contains, ℤ, pos, Option, Some, None, slice_get, refl, sym, ap, ◌∙◌, subst, arith}
use Rattle.std.specs.Prelude.{option_map}
use Rattle.std.specs.Global.{Vec}
use Rattle.std.specs.declared.cmp.Ordering.TheVariants.{Equal}
use Rattle.std.specs.Ordering.{is_lt, int_cmp}
use Rattle.std.specs.Cmp.{IsTotalOrder}
use Rattle.std.specs.Cmp.Lexicographic.{lists_total}
use Rattle.std.specs.List.{position_or_len}
use Rattle.std.specs.List.Sorted.{IsPermutation}
use Rattle.std.proofs.lemmas.Cmp.{int_cmp_total}
use Rattle.std.proofs.lemmas.Bool.Decides.{eqb_tells, leb_tells}
use Rattle.std.proofs.lemmas.List.{length-map}
use Rattle.std.proofs.lemmas.List.Sums.{fails_before_first, passes_at_first}
use Rattle.std.proofs.lemmas.List.Sorted.{Contains-permutation}
use Rattle.std.proofs.lemmas.Option.{slice_get_cases, slice_get_within, slice_get-map}
use Rattle.dep_expr.specs.Linear.{LinearForm}
use Rattle.checked_tree.specs.declared.checks.Check.{Check}
use Rattle.checked_tree.specs.declared.checks.Cond.{Cond}
use Rattle.checked_tree.specs.declared.checks.Cond.TheVariants as cond
use Rattle.checked_tree.specs.declared.units.CheckedFn.{CheckedFn}
use Rattle.check_elim.specs.Redundancy.{kind_number, same_check}
use Rattle.check_elim.specs.Sets.{AreClasses}
use Rattle.check_elim.specs.Tables.{terms_code, form_code, optional_code, cond_code, check_code, codes_cmp, class_among, AreCodesSorted}
use Rattle.check_elim.proofs.Deciding.{kind_is, same_tells}
use Rattle.check_elim.proofs.Orders.{int_equal, then_equal}
use Rattle.check_elim.proofs.Searching.{neither}

-- ---- what a code tells
terms_apart : (xs ys : List (ℤ × ℕ)) (u v : List ℤ) → terms_code xs ++ u ≡ terms_code ys ++ v → (xs ≡ ys) × (u ≡ v)
terms_apart [] [] u v h = (refl, cc)
terms_apart [] (y ∷ ys) u v h = absurd cc
terms_apart (x ∷ xs) [] u v h = absurd cc
terms_apart (x ∷ xs) (y ∷ ys) u v h =
    let a : x.0 ≡ y.0 = cc in
    let b : x.1 ≡ y.1 = cc in
    let r = terms_apart xs ys u v cc in
    (λ i. (a i, b i) ∷ r.0 i, r.1)

form_apart : (l m : LinearForm) (u v : List ℤ) → form_code l ++ u ≡ form_code m ++ v → (l ≡ m) × (u ≡ v)
form_apart l m u v h =
    let a : l.constant ≡ m.constant = cc in
    let r = terms_apart l.terms m.terms u v cc in
    (λ i. record { terms = r.0 i; constant = a i }, r.1)

optional_apart : (g h : Option LinearForm) (u v : List ℤ) → optional_code g ++ u ≡ optional_code h ++ v → (g ≡ h) × (u ≡ v)
optional_apart None None u v e = (refl, cc)
optional_apart None (Some m) u v e = absurd cc
optional_apart (Some l) None u v e = absurd cc
optional_apart (Some l) (Some m) u v e = let r = form_apart l m u v cc in (ap (λ x. Some x) r.0, r.1)

-- a list with nothing behind it
ended : (xs : List ℤ) → xs ++ [] ≡ xs
ended [] = refl
ended (x ∷ xs) = ap (λ l. x ∷ l) (ended xs)

form_is : (l m : LinearForm) → form_code l ≡ form_code m → l ≡ m
form_is l m h = (form_apart l m [] [] (ended (form_code l) ∙ (h ∙ sym (ended (form_code m))))).0

optional_is : (g h : Option LinearForm) → optional_code g ≡ optional_code h → g ≡ h
optional_is g h e = (optional_apart g h [] [] (ended (optional_code g) ∙ (e ∙ sym (ended (optional_code h))))).0

cond_is : (a b : Cond) → cond_code a ≡ cond_code b → a ≡ b
cond_is (cond.Le i) (cond.Le j) h =
    let r = form_apart i.left j.left (optional_code i.guard) (optional_code j.guard) cc in
    let g = optional_is i.guard j.guard r.1 in
    λ k. cond.Le (record { left = r.0 k; guard = g k })
cond_is (cond.Le i) (cond.Aligned m other by) h = absurd cc
cond_is (cond.Le i) (cond.NonZero m) h = absurd cc
cond_is (cond.Le i) (cond.Equal m y) h = absurd cc
cond_is (cond.Le i) (cond.Term m by) h = absurd cc
cond_is (cond.Le i) (cond.Kept m by n other) h = absurd cc
cond_is (cond.Aligned l size guard) (cond.Aligned m other by) h =
    let s : size ≡ other = cc in
    let r = form_apart l m (form_code guard) (form_code by) cc in
    let g = form_is guard by r.1 in
    λ k. cond.Aligned (r.0 k) (s k) (g k)
cond_is (cond.Aligned l size guard) (cond.Le j) h = absurd cc
cond_is (cond.Aligned l size guard) (cond.NonZero m) h = absurd cc
cond_is (cond.Aligned l size guard) (cond.Equal m y) h = absurd cc
cond_is (cond.Aligned l size guard) (cond.Term m by) h = absurd cc
cond_is (cond.Aligned l size guard) (cond.Kept m by n other) h = absurd cc
cond_is (cond.NonZero l) (cond.NonZero m) h = ap (λ x. cond.NonZero x) (form_is l m cc)
cond_is (cond.NonZero l) (cond.Le j) h = absurd cc
cond_is (cond.NonZero l) (cond.Aligned m other by) h = absurd cc
cond_is (cond.NonZero l) (cond.Equal m y) h = absurd cc
cond_is (cond.NonZero l) (cond.Term m by) h = absurd cc
cond_is (cond.NonZero l) (cond.Kept m by n other) h = absurd cc
cond_is (cond.Equal l z) (cond.Equal m y) h =
    let s : z ≡ y = cc in
    let r = form_is l m cc in
    λ k. cond.Equal (r k) (s k)
cond_is (cond.Equal l z) (cond.Le j) h = absurd cc
cond_is (cond.Equal l z) (cond.Aligned m other by) h = absurd cc
cond_is (cond.Equal l z) (cond.NonZero m) h = absurd cc
cond_is (cond.Equal l z) (cond.Term m by) h = absurd cc
cond_is (cond.Equal l z) (cond.Kept m by n other) h = absurd cc
cond_is (cond.Term at new) (cond.Term m by) h =
    let r = form_apart at m (optional_code new) (optional_code by) cc in
    let g = optional_is new by r.1 in
    λ k. cond.Term (r.0 k) (g k)
cond_is (cond.Term at new) (cond.Le j) h = absurd cc
cond_is (cond.Term at new) (cond.Aligned m other by) h = absurd cc
cond_is (cond.Term at new) (cond.NonZero m) h = absurd cc
cond_is (cond.Term at new) (cond.Equal m y) h = absurd cc
cond_is (cond.Term at new) (cond.Kept m by n other) h = absurd cc
cond_is (cond.Kept tag new at size) (cond.Kept l by m other) h =
    let s : size ≡ other = cc in
    let r = form_apart tag l (form_code new ++ form_code at) (form_code by ++ form_code m) cc in
    let q = form_apart new by (form_code at) (form_code m) r.1 in
    let g = form_is at m q.1 in
    λ k. cond.Kept (r.0 k) (q.0 k) (g k) (s k)
cond_is (cond.Kept tag new at size) (cond.Le j) h = absurd cc
cond_is (cond.Kept tag new at size) (cond.Aligned m other by) h = absurd cc
cond_is (cond.Kept tag new at size) (cond.NonZero m) h = absurd cc
cond_is (cond.Kept tag new at size) (cond.Equal m y) h = absurd cc
cond_is (cond.Kept tag new at size) (cond.Term m by) h = absurd cc

code_is : (c d : Check) → check_code c ≡ check_code d → same_check c d ≡ true
unfolding check_code
code_is c d h =
    let k : kind_number c.kind ≡ kind_number d.kind = cc in
    let e : cond_code c.cond ≡ cond_code d.cond = cc in
    (same_tells c d).1 (kind_is c.kind d.kind k, cond_is c.cond d.cond e)

same_code : (c d : Check) → same_check c d ≡ true → check_code c ≡ check_code d
unfolding check_code
same_code c d h = let p = (same_tells c d).0 h in λ i. pos (kind_number (p.0 i)) ∷ cond_code (p.1 i)

-- ---- codes in order
pub codes_total : IsTotalOrder codes_cmp
codes_total = lists_total int_cmp_total

pub codes_equal : (a b : List ℤ) → codes_cmp a b ≡ Equal → a ≡ b
codes_equal [] [] h = refl
codes_equal [] (y ∷ ys) h = absurd cc
codes_equal (x ∷ xs) [] h = absurd cc
codes_equal (x ∷ xs) (y ∷ ys) h =
    let p = then_equal (int_cmp x y) (codes_cmp xs ys) h in
    let a = int_equal x y p.0 in
    let r = codes_equal xs ys p.1 in
    λ i. a i ∷ r i

-- the class of a code that is there
class_there : (codes : List (Vec ℤ)) (code : List ℤ) (v : Vec ℤ) → AreCodesSorted codes → Contains codes v → v.items ≡ code
    → (class_among codes code < length codes) × ((get_or codes (class_among codes code) v).items ≡ code)
unfolding AreCodesSorted class_among
class_there codes code v sorted c same =
    let p : Vec ℤ → Bool = λ (w : Vec ℤ). not (is_lt (codes_cmp w.items code)) in
    let first : ℕ = position_or_len p codes in
    let here : (get_or codes c.0 v).items ≡ code = ap (λ (w : Vec ℤ). w.items) c.2 ∙ same in
    let at : not (is_lt (codes_cmp (get_or codes c.0 v).items code)) ≡ true = ap (λ (l : List ℤ). not (is_lt (codes_cmp l code))) here ∙ ap not (Rattle.check_elim.proofs.Searching.itself (λ (l : List ℤ). l) codes_total codes_equal code) in
    let low : first ≤ c.0 = elim (leb_tells first c.0) [ inl q ↦ q.1 | inr q ↦ absurd (let w : true ≡ false = sym at ∙ fails_before_first p codes c.0 v q.1 in cc) ] in
    let inside : first < length codes = omega (arith, low, c.1) in (
      inside,
      neither (λ (l : List ℤ). l) codes_total codes_equal (get_or codes first v).items code (not_true (is_lt (codes_cmp (get_or codes first v).items code)) (passes_at_first p codes v inside))
          (subst (λ (l : List ℤ). is_lt (codes_cmp l (get_or codes first v).items) ≡ false) here (sorted first c.0 v low c.1)),
    )
  where
    not_true : (b : Bool) → not b ≡ true → b ≡ false
    not_true true e = absurd cc
    not_true false e = refl

module _ (f : CheckedFn) (old codes : List (Vec ℤ)) (numbers : List ℕ) (coded : map (λ (v : Vec ℤ). v.items) old ≡ map check_code f.checks) (moved : IsPermutation old codes) (sorted : AreCodesSorted codes)
    (are : numbers ≡ map (λ (c : Check). class_among codes (check_code c)) f.checks) where
  -- the code of each check is there
  code_there : (p : ℕ) (c : Check) → slice_get f.checks p ≡ Some c → (v : Vec ℤ) × Contains codes v × (v.items ≡ check_code c)
  code_there p c at = elim (slice_get_cases old p).1 [
    | inl q ↦
        let same : Some q.0.items ≡ Some (check_code c) =
        sym (slice_get-map (λ (v : Vec ℤ). v.items) old p ∙ ap (option_map (λ (v : Vec ℤ). v.items)) q.2)
        ∙ (ap (λ (l : List (List ℤ)). slice_get l p) coded ∙ (slice_get-map check_code f.checks p ∙ ap (option_map check_code) at)) in
        (q.0, Contains-permutation old codes q.0 moved (p, q.1, q.3), cc)
    | inr q ↦ absurd (let w : ◌≡◌ {A = Option (List ℤ)} None (Some (check_code c)) =
        sym (slice_get-map (λ (v : Vec ℤ). v.items) old p ∙ ap (option_map (λ (v : Vec ℤ). v.items)) q.1)
        ∙ (ap (λ (l : List (List ℤ)). slice_get l p) coded ∙ (slice_get-map check_code f.checks p ∙ ap (option_map check_code) at)) in cc)
  ]

  abbrev class : Check → ℕ
  class c = class_among codes (check_code c)

  class_at : (p : ℕ) (c : Check) (k : ℕ) → slice_get f.checks p ≡ Some c → slice_get numbers p ≡ Some k → class c ≡ k
  class_at p c k at here =
      let w : Some (class c) ≡ Some k = sym (ap (λ (l : List ℕ). slice_get l p) are ∙ (slice_get-map class f.checks p ∙ ap (option_map class) at)) ∙ here in
      cc

  class_inside : (p : ℕ) (c : Check) → slice_get f.checks p ≡ Some c → class c < length codes
  class_inside p c at = let v = code_there p c at in (class_there codes (check_code c) v.0 sorted v.1 v.2).0

  class_same : (p q : ℕ) (c d : Check) → slice_get f.checks p ≡ Some c → slice_get f.checks q ≡ Some d → class c ≡ class d → check_code c ≡ check_code d
  class_same p q c d at there same =
      let v = code_there p c at in
      let w = code_there q d there in
      let x = class_there codes (check_code c) v.0 sorted v.1 v.2 in
      let y = class_there codes (check_code d) w.0 sorted w.1 w.2 in
      sym x.1 ∙ (ap (λ (k : ℕ). (get_or codes k v.0).items) same
      ∙ (ap (λ (z : Vec ℤ). z.items) (Rattle.std.proofs.lemmas.List.get_or_default codes (class d) v.0 w.0 y.0) ∙ y.1))

  classes_agree : (p q k l : ℕ) (c d : Check) → slice_get f.checks p ≡ Some c → slice_get f.checks q ≡ Some d → slice_get numbers p ≡ Some k → slice_get numbers q ≡ Some l → (k == l) ≡ same_check c d
  classes_agree p q k l c d at there g h =
      let one : class c ≡ k = class_at p c k at g in
      let two : class d ≡ l = class_at q d l there h in
      elim (eqb_tells k l) [
        | inl e ↦ e.0 ∙ sym (code_is c d (class_same p q c d at there (one ∙ (e.1 ∙ sym two))))
        | inr e ↦ e.0 ∙ sym (by (same_check c d) refl (λ s. e.1 (sym one ∙ (ap (class_among codes) (same_code c d s) ∙ two))))
      ]
    where
      by : (b : Bool) → same_check c d ≡ b → (same_check c d ≡ true → ⊥) → b ≡ false
      by true e no_way = absurd (no_way e)
      by false e no_way = refl

  pub classes_are : (size : ℕ) (v : Vec ℕ) → v.items ≡ numbers → length codes ≤ 64 * size → AreClasses f (record { size = size; numbers = v })
  unfolding AreClasses
  classes_are size v is room =
      subst (λ (l : List ℕ). (length l ≡ length f.checks) × ((place k : ℕ) → slice_get l place ≡ Some k → k < 64 * size)
      × ((p q k l2 : ℕ) (c d : Check) → slice_get f.checks p ≡ Some c → slice_get f.checks q ≡ Some d → slice_get l p ≡ Some k → slice_get l q ≡ Some l2 → (k == l2) ≡ same_check c d) → AreClasses f (record { size = size; numbers = v })) is
      (λ h. record { count = h.0; fits = h.1; same = h.2 })
      (ap length are ∙ length-map f.checks class, (λ place k here. fit place k here), classes_agree)
    where
      fit : (place k : ℕ) → slice_get numbers place ≡ Some k → k < 64 * size
      fit place k here = elim (slice_get_cases f.checks place).1 [
        | inl q ↦ omega (arith, class_inside place q.0 q.2, class_at place q.0 k q.2 here, room)
        | inr q ↦ absurd (omega (arith, q.0, slice_get_within numbers place k here, ap length are, length-map f.checks class))
      ]
