-- `merged_terms` keeps the coefficients and the values, and leaves merged terms.
use Rattle.std.proofs.Common.{◌≡◌, ◌≢◌, ℕ, ◌<◌, ◌==◌, nat_lt, cond, Bool, true, false, not, List, [], ◌∷◌, filter, ℤ, pos, ◌+ℤ◌, ◌*ℤ◌, arith, sym, ap, subst, ◌∙◌, refl, if◌then◌else◌}
use Rattle.std.specs.Ordering.{int_eq}
use Rattle.std.proofs.Math.IntN.{zero-*ℤ}
use Rattle.std.proofs.lemmas.Int.{ints}
use Rattle.std.proofs.lemmas.Bool.Decides.{Decides-int_eq, not_from_Decides, Decides-ltb}
use Rattle.dep_expr.proofs.Integers.{add-mul}
use Rattle.dep_expr.proofs.Canonical.{on_equal, AllAbove-lower}
use Rattle.dep_expr.specs.Linear.{LinearForm, Assignment, terms_value, value_of}
use Rattle.dep_expr.specs.Merged.{coefficient, with_term, gathered, counts, merged_terms, merged, AllAbove, AreMerged}

-- the three cases of a term that is put among others
pub on_with_term : (P : List (ℤ × ℕ) → Type 0) (t u : ℤ × ℕ) (us : List (ℤ × ℕ))
    → (t.1 ≡ u.1 → P ((t.0 +ℤ u.0, u.1) ∷ us)) → (t.1 < u.1 → P (t ∷ (u ∷ us))) → (u.1 < t.1 → P (u ∷ with_term t us)) → P (with_term t (u ∷ us))
on_with_term P t u us same below above =
    on_equal (λ b. P (if b then (t.0 +ℤ u.0, u.1) ∷ us else (if nat_lt t.1 u.1 then t ∷ (u ∷ us) else u ∷ with_term t us))) t.1 u.1 same
    (λ other. by (nat_lt t.1 u.1) refl other)
  where
    by : (b : Bool) → nat_lt t.1 u.1 ≡ b → t.1 ≢ u.1 → P (if b then t ∷ (u ∷ us) else u ∷ with_term t us)
    by true h other = below ((Decides-ltb t.1 u.1).0 h)
    by false h other = let no = not_from_Decides (nat_lt t.1 u.1) (Decides-ltb t.1 u.1) h in above (omega (arith, no, other))

-- the two cases of a term that may count
pub on_counts : (P : Bool → Type 0) (t : ℤ × ℕ) → (t.0 ≢ pos 0 → P true) → (t.0 ≡ pos 0 → P false) → P (counts t)
on_counts P t if_so if_zero = by (int_eq t.0 (pos 0)) refl
  where
    by : (b : Bool) → int_eq t.0 (pos 0) ≡ b → P (not b)
    by true h = if_zero ((Decides-int_eq t.0 (pos 0)).0 h)
    by false h = if_so (not_from_Decides (int_eq t.0 (pos 0)) (Decides-int_eq t.0 (pos 0)) h)

-- the sum of what each term gives
abbrev pub total : (ℤ × ℕ → ℤ) → List (ℤ × ℕ) → ℤ
total part [] = pos 0
total part (t ∷ ts) = part t +ℤ total part ts

-- what a term gives adds up over terms of one atom
pub record IsAdditive (part : ℤ × ℕ → ℤ) : Type 0 where
  pub sum : (x y : ℤ) (a : ℕ) → part (x +ℤ y, a) ≡ part (x, a) +ℤ part (y, a)
  pub none : (a : ℕ) → part (pos 0, a) ≡ pos 0

total-with_term : (part : ℤ × ℕ → ℤ) → IsAdditive part → (t : ℤ × ℕ) (us : List (ℤ × ℕ)) → total part (with_term t us) ≡ part t +ℤ total part us
total-with_term part h t [] = refl
total-with_term part h t (u ∷ us) =
    on_with_term (λ xs. total part xs ≡ part t +ℤ (part u +ℤ total part us)) t u us
    (λ same. omega (arith, ints, h.sum t.0 u.0 u.1, ap (λ a. part (t.0, a)) same))
    (λ below. refl)
    (λ above. omega (arith, ints, total-with_term part h t us))

total-gathered : (part : ℤ × ℕ → ℤ) → IsAdditive part → (ts : List (ℤ × ℕ)) → total part (gathered ts) ≡ total part ts
total-gathered part h [] = refl
total-gathered part h (t ∷ ts) = total-with_term part h t (gathered ts) ∙ ap (λ x. part t +ℤ x) (total-gathered part h ts)

pub total-filter : (part : ℤ × ℕ → ℤ) → IsAdditive part → (ts : List (ℤ × ℕ)) → total part (filter counts ts) ≡ total part ts
total-filter part h [] = refl
total-filter part h (t ∷ ts) =
    on_counts (λ b. total part (cond b (t ∷ filter counts ts) (filter counts ts)) ≡ part t +ℤ total part ts) t
    (λ nonzero. ap (λ x. part t +ℤ x) (total-filter part h ts))
    (λ zero. omega (arith, ints, total-filter part h ts, ap (λ x. part (x, t.1)) zero, h.none t.1))

-- merging keeps each such sum
pub total-merged : (part : ℤ × ℕ → ℤ) → IsAdditive part → (ts : List (ℤ × ℕ)) → total part (merged_terms ts) ≡ total part ts
unfolding merged_terms
total-merged part h ts = total-filter part h (gathered ts) ∙ total-gathered part h ts

-- what a term gives to the coefficient of an atom
abbrev pub part_at : ℕ → ℤ × ℕ → ℤ
part_at a t = if t.1 == a then t.0 else pos 0

pub IsAdditive-part_at : (a : ℕ) → IsAdditive (part_at a)
IsAdditive-part_at a = record {
  sum = λ x y b. at_test x y (b == a);
  none = λ b. at_none (b == a);
}
  where
    at_test : (x y : ℤ) (t : Bool) → (if t then x +ℤ y else pos 0) ≡ (if t then x else pos 0) +ℤ (if t then y else pos 0)
    at_test x y true = refl
    at_test x y false = refl

    at_none : (t : Bool) → (if t then pos 0 else pos 0) ≡ pos 0
    at_none true = refl
    at_none false = refl

pub coefficient-total : (a : ℕ) (ts : List (ℤ × ℕ)) → coefficient a ts ≡ total (part_at a) ts
coefficient-total a [] = refl
coefficient-total a (t ∷ ts) = ap (λ x. part_at a t +ℤ x) (coefficient-total a ts)

-- what a term gives to the value
abbrev pub value_at : Assignment → ℤ × ℕ → ℤ
value_at at t = t.0 *ℤ at t.1

pub IsAdditive-value_at : (at : Assignment) → IsAdditive (value_at at)
IsAdditive-value_at at = record { sum = λ x y b. add-mul x y (at b); none = λ b. zero-*ℤ (at b) }

pub terms_value-total : (at : Assignment) (ts : List (ℤ × ℕ)) → terms_value ts at ≡ total (value_at at) ts
terms_value-total at [] = refl
terms_value-total at (t ∷ ts) = ap (λ x. value_at at t +ℤ x) (terms_value-total at ts)

-- the value at every assignment is kept
pub value_of-merged : (l : LinearForm) (at : Assignment) → value_of (merged l) at ≡ value_of l at
unfolding value_of
value_of-merged l at =
    ap (λ x. x +ℤ l.constant) (terms_value-total at (merged_terms l.terms) ∙ (total-merged (value_at at) (IsAdditive-value_at at) l.terms ∙ sym (terms_value-total at l.terms)))

-- the atoms strictly ascend
abbrev pub Ascends : List (ℤ × ℕ) → Type 0
Ascends [] = Unit {0}
Ascends (t ∷ ts) = AllAbove t.1 ts × Ascends ts

AllAbove-with_term : (a : ℕ) (t : ℤ × ℕ) (us : List (ℤ × ℕ)) → a < t.1 → AllAbove a us → AllAbove a (with_term t us)
AllAbove-with_term a t [] lt h = (lt, tt)
AllAbove-with_term a t (u ∷ us) lt h = on_with_term (AllAbove a) t u us (λ same. h) (λ below. (lt, h)) (λ above. (h.0, AllAbove-with_term a t us lt h.1))

Ascends-with_term : (t : ℤ × ℕ) (us : List (ℤ × ℕ)) → Ascends us → Ascends (with_term t us)
Ascends-with_term t [] h = (tt, tt)
Ascends-with_term t (u ∷ us) h =
    on_with_term Ascends t u us (λ same. h)
    (λ below. ((below, AllAbove-lower t.1 u.1 us (omega arith) h.0), h))
    (λ above. (AllAbove-with_term u.1 t us above h.0, Ascends-with_term t us h.1))

Ascends-gathered : (ts : List (ℤ × ℕ)) → Ascends (gathered ts)
Ascends-gathered [] = tt
Ascends-gathered (t ∷ ts) = Ascends-with_term t (gathered ts) (Ascends-gathered ts)

AllAbove-filter : (a : ℕ) (ts : List (ℤ × ℕ)) → AllAbove a ts → AllAbove a (filter counts ts)
AllAbove-filter a [] h = tt
AllAbove-filter a (t ∷ ts) h =
    on_counts (λ b. AllAbove a (cond b (t ∷ filter counts ts) (filter counts ts))) t
    (λ nonzero. (h.0, AllAbove-filter a ts h.1)) (λ zero. AllAbove-filter a ts h.1)

AreMerged-filter : (ts : List (ℤ × ℕ)) → Ascends ts → AreMerged (filter counts ts)
AreMerged-filter [] h = tt
AreMerged-filter (t ∷ ts) h =
    on_counts (λ b. AreMerged (cond b (t ∷ filter counts ts) (filter counts ts))) t
    (λ nonzero. (nonzero, AllAbove-filter t.1 ts h.0, AreMerged-filter ts h.1)) (λ zero. AreMerged-filter ts h.1)

-- merged terms have no zero coefficient, and their atoms strictly ascend
pub AreMerged-merged : (ts : List (ℤ × ℕ)) → AreMerged (merged_terms ts)
unfolding merged_terms
AreMerged-merged ts = AreMerged-filter (gathered ts) (Ascends-gathered ts)

-- the same, for a form that equals the merged one
pub merged_value : (s l : LinearForm) → s ≡ merged l → (at : Assignment) → value_of s at ≡ value_of l at
merged_value s l e at = ap (λ f. value_of f at) e ∙ value_of-merged l at

pub merged_order : (s l : LinearForm) → s ≡ merged l → AreMerged s.terms
merged_order s l e = subst (λ (f : LinearForm). AreMerged f.terms) (sym e) (AreMerged-merged l.terms)
