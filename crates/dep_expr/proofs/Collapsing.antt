-- In terms sorted by atom, the runs added up are the merged terms.
use Rattle.std.proofs.Common.{◌≡◌, ◌≢◌, ℕ, suc, ◌+◌, ◌^◌, ◌<◌, ◌≤◌, List, [], ◌∷◌, ◌++◌, length, ℤ, pos, negsuc, ◌+ℤ◌, ◌-ℤ◌, arith, sym, ap, subst, ◌∙◌, refl, append-nil, if◌then◌else◌, unsigned_abs, All, sum_by, drop, get_or, add-one, drop-cons}
use Rattle.std.specs.List.Sorted.{IsPermutation, IsNonDecreasingBy}
use Rattle.std.proofs.lemmas.Int.{ints}
use Rattle.std.proofs.lemmas.List.Sorted.{sum_by-IsPermutation}
use Rattle.std.proofs.lemmas.List.{drop_all}
use Rattle.std.proofs.lemmas.List.Sums.{sum_by-cons}
use Rattle.std.proofs.lemmas.List.Elements.{All-head, All-tail}
use Rattle.dep_expr.proofs.Canonical.{on_equal, canonical}
use Rattle.dep_expr.proofs.Merging.{on_counts, total, IsAdditive, total-merged, part_at, IsAdditive-part_at, coefficient-total, AreMerged-merged}
use Rattle.dep_expr.specs.Linear.{IsSmallTerm}
use Rattle.dep_expr.specs.Merged.{counted, collapsed_from, collapsed, merged_terms, AllAbove, AreMerged}

-- the two cases of a term behind an open run
on_run : (P : List (ℤ × ℕ) → Type 0) (sum : ℤ) (a : ℕ) (t : ℤ × ℕ) (ts : List (ℤ × ℕ))
    → (t.1 ≡ a → P (collapsed_from (sum +ℤ t.0) a ts)) → (t.1 ≢ a → P (counted (sum, a) ++ collapsed_from t.0 t.1 ts)) → P (collapsed_from sum a (t ∷ ts))
on_run P sum a t ts same other = on_equal (λ b. P (if b then collapsed_from (sum +ℤ t.0) a ts else counted (sum, a) ++ collapsed_from t.0 t.1 ts)) t.1 a same other

total-counted : (part : ℤ × ℕ → ℤ) → IsAdditive part → (t : ℤ × ℕ) (us : List (ℤ × ℕ)) → total part (counted t ++ us) ≡ part t +ℤ total part us
total-counted part h t us =
    on_counts (λ b. total part ((if b then t ∷ [] else []) ++ us) ≡ part t +ℤ total part us) t
    (λ nonzero. refl)
    (λ zero. omega (arith, ints, ap (λ x. part (x, t.1)) zero, h.none t.1))

total-collapsed_from : (part : ℤ × ℕ → ℤ) → IsAdditive part → (sum : ℤ) (a : ℕ) (ts : List (ℤ × ℕ)) → total part (collapsed_from sum a ts) ≡ part (sum, a) +ℤ total part ts
total-collapsed_from part h sum a [] =
    on_counts (λ b. total part (if b then (sum, a) ∷ [] else []) ≡ part (sum, a) +ℤ pos 0) (sum, a)
    (λ nonzero. refl)
    (λ zero. omega (arith, ints, ap (λ x. part (x, a)) zero, h.none a))
total-collapsed_from part h sum a (t ∷ ts) =
    on_run (λ xs. total part xs ≡ part (sum, a) +ℤ (part t +ℤ total part ts)) sum a t ts
    (λ same. omega (arith, ints, total-collapsed_from part h (sum +ℤ t.0) a ts, h.sum sum t.0 a, ap (λ b. part (t.0, b)) same))
    (λ other. total-counted part h (sum, a) (collapsed_from t.0 t.1 ts) ∙ ap (λ x. part (sum, a) +ℤ x) (total-collapsed_from part h t.0 t.1 ts))

-- adding up the runs keeps each such sum
total-collapsed : (part : ℤ × ℕ → ℤ) → IsAdditive part → (ts : List (ℤ × ℕ)) → total part (collapsed ts) ≡ total part ts
unfolding collapsed
total-collapsed part h [] = refl
total-collapsed part h (t ∷ ts) = omega (arith, ints, total-collapsed_from part h (pos 0) t.1 (t ∷ ts), h.none t.1)

-- the atoms ascend from this one on, equal ones side by side
abbrev pub Climbs : ℕ → List (ℤ × ℕ) → Type 0
Climbs a [] = Unit {0}
Climbs a (t ∷ ts) = (a ≤ t.1) × Climbs t.1 ts

AllAbove-collapsed : (b : ℕ) (sum : ℤ) (a : ℕ) (ts : List (ℤ × ℕ)) → b < a → Climbs a ts → AllAbove b (collapsed_from sum a ts)
AllAbove-collapsed b sum a [] lt h =
    on_counts (λ c. AllAbove b (if c then (sum, a) ∷ [] else [])) (sum, a) (λ nonzero. (lt, tt)) (λ zero. tt)
AllAbove-collapsed b sum a (t ∷ ts) lt h =
    on_run (AllAbove b) sum a t ts
    (λ same. AllAbove-collapsed b (sum +ℤ t.0) a ts lt (subst (λ (n : ℕ). Climbs n ts) same h.1))
    (λ other. on_counts (λ c. AllAbove b ((if c then (sum, a) ∷ [] else []) ++ collapsed_from t.0 t.1 ts)) (sum, a)
    (λ nonzero. (lt, AllAbove-collapsed b t.0 t.1 ts (omega (arith, h.0)) h.1))
    (λ zero. AllAbove-collapsed b t.0 t.1 ts (omega (arith, h.0)) h.1))

AreMerged-collapsed_from : (sum : ℤ) (a : ℕ) (ts : List (ℤ × ℕ)) → Climbs a ts → AreMerged (collapsed_from sum a ts)
AreMerged-collapsed_from sum a [] h =
    on_counts (λ c. AreMerged (if c then (sum, a) ∷ [] else [])) (sum, a) (λ nonzero. (nonzero, tt, tt)) (λ zero. tt)
AreMerged-collapsed_from sum a (t ∷ ts) h =
    on_run AreMerged sum a t ts
    (λ same. AreMerged-collapsed_from (sum +ℤ t.0) a ts (subst (λ (n : ℕ). Climbs n ts) same h.1))
    (λ other. on_counts (λ c. AreMerged ((if c then (sum, a) ∷ [] else []) ++ collapsed_from t.0 t.1 ts)) (sum, a)
    (λ nonzero. (nonzero, AllAbove-collapsed a t.0 t.1 ts (omega (arith, h.0, other)) h.1, AreMerged-collapsed_from t.0 t.1 ts h.1))
    (λ zero. AreMerged-collapsed_from t.0 t.1 ts h.1))

Climbs-sorted : (t : ℤ × ℕ) (ts : List (ℤ × ℕ)) → IsNonDecreasingBy (λ u. u.1) (t ∷ ts) → Climbs t.1 ts
Climbs-sorted t [] h = tt
Climbs-sorted t (u ∷ us) h = (h 0 1 t (omega arith) (omega arith), Climbs-sorted u us (λ i j d le lt. h (suc i) (suc j) d (omega arith) (omega arith)))

AreMerged-collapsed : (ts : List (ℤ × ℕ)) → IsNonDecreasingBy (λ u. u.1) ts → AreMerged (collapsed ts)
unfolding collapsed
AreMerged-collapsed [] h = tt
AreMerged-collapsed (t ∷ ts) h = AreMerged-collapsed_from (pos 0) t.1 (t ∷ ts) (omega arith, Climbs-sorted t ts h)

-- the two sides of a whole number, as natural numbers
up : ℤ → ℕ
up (pos n) = n
up (negsuc n) = 0

down : ℤ → ℕ
down (pos n) = 0
down (negsuc n) = suc n

difference : (z : ℤ) → z ≡ pos (up z) -ℤ pos (down z)
unfolding up down
difference (pos n) = omega (arith, ints)
difference (negsuc n) = omega (arith, ints)

total-difference : (part : ℤ × ℕ → ℤ) (ts : List (ℤ × ℕ)) → total part ts ≡ pos (sum_by (λ t. up (part t)) ts) -ℤ pos (sum_by (λ t. down (part t)) ts)
total-difference part [] = omega (arith, ints)
total-difference part (t ∷ ts) =
    omega (arith, ints, difference (part t), total-difference part ts, sum_by-cons (λ u. up (part u)) t ts, sum_by-cons (λ u. down (part u)) t ts)

-- another order gives the same sum
total-permutation : (part : ℤ × ℕ → ℤ) (xs ys : List (ℤ × ℕ)) → IsPermutation xs ys → total part ys ≡ total part xs
total-permutation part xs ys h =
    omega (
      arith,
      ints,
      total-difference part xs,
      total-difference part ys,
      sum_by-IsPermutation (λ t. up (part t)) xs ys h,
      sum_by-IsPermutation (λ t. down (part t)) xs ys h,
    )

-- the runs of the sorted terms added up are the merged terms
pub collapsed-sorted : (ts sorted : List (ℤ × ℕ)) → IsPermutation ts sorted → IsNonDecreasingBy (λ u. u.1) sorted → collapsed sorted ≡ merged_terms ts
collapsed-sorted ts sorted h k =
    canonical (collapsed sorted) (merged_terms ts) (AreMerged-collapsed sorted k) (AreMerged-merged ts)
    (λ a. let h' = IsAdditive-part_at a in
    coefficient-total a (collapsed sorted)
    ∙ (total-collapsed (part_at a) h' sorted
    ∙ (total-permutation (part_at a) ts sorted h
    ∙ (sym (total-merged (part_at a) h' ts)
    ∙ sym (coefficient-total a (merged_terms ts))))))

-- what is open is small, where all that comes out is
pub small_open : (xs ys : List (ℤ × ℕ)) (sum : ℤ) (a : ℕ) → All IsSmallTerm (xs ++ (counted (sum, a) ++ ys)) → unsigned_abs sum < 2 ^ 62
small_open [] ys sum a =
    on_counts (λ c. All IsSmallTerm ((if c then (sum, a) ∷ [] else []) ++ ys) → unsigned_abs sum < 2 ^ 62) (sum, a)
    (λ nonzero h. All-head IsSmallTerm (sum, a) ys h)
    (λ zero h. subst (λ (z : ℤ). unsigned_abs z < 2 ^ 62) (sym zero) (omega arith))
small_open (x ∷ xs) ys sum a = λ h. small_open xs ys sum a (All-tail IsSmallTerm x (xs ++ (counted (sum, a) ++ ys)) h)

run_same : (sum : ℤ) (a : ℕ) (t : ℤ × ℕ) (ts : List (ℤ × ℕ)) → t.1 ≡ a → collapsed_from sum a (t ∷ ts) ≡ collapsed_from (sum +ℤ t.0) a ts
run_same sum a t ts e = on_run (λ xs. xs ≡ collapsed_from (sum +ℤ t.0) a ts) sum a t ts (λ same. refl) (λ other. absurd (other e))

run_other : (sum : ℤ) (a : ℕ) (t : ℤ × ℕ) (ts : List (ℤ × ℕ)) → t.1 ≢ a → collapsed_from sum a (t ∷ ts) ≡ counted (sum, a) ++ collapsed_from t.0 t.1 ts
run_other sum a t ts n = on_run (λ xs. xs ≡ counted (sum, a) ++ collapsed_from t.0 t.1 ts) sum a t ts (λ same. absurd (n same)) (λ other. refl)

ahead : (terms : List (ℤ × ℕ)) (i : ℕ) (t : ℤ × ℕ) → i < length terms → t ≡ get_or terms i t → drop i terms ≡ t ∷ drop (i + 1) terms
ahead terms i t lt is = rw (add-one, drop-cons terms i t lt) (ap (λ u. u ∷ drop (suc i) terms) (sym is))

-- the last open sum is small, where all that comes out is
pub small_last : (xs : List (ℤ × ℕ)) (sum : ℤ) (a : ℕ) → All IsSmallTerm (xs ++ counted (sum, a)) → unsigned_abs sum < 2 ^ 62
small_last xs sum a h = small_open xs [] sum a (subst (λ (ys : List (ℤ × ℕ)). All IsSmallTerm (xs ++ ys)) (sym (append-nil (counted (sum, a)))) h)

-- the runs added up, where a pass over the terms comes to one of the open run
pub collapsed_same : (terms form : List (ℤ × ℕ)) (sum sum' : ℤ) (a i : ℕ) (t : ℤ × ℕ) → i < length terms → t ≡ get_or terms i t
    → form ++ collapsed_from sum a (drop i terms) ≡ collapsed terms → t.1 ≡ a → sum' ≡ sum +ℤ t.0
    → form ++ collapsed_from sum' a (drop (i + 1) terms) ≡ collapsed terms
collapsed_same terms form sum sum' a i t lt is h e s =
    ap (λ z. form ++ collapsed_from z a (drop (i + 1) terms)) s
    ∙ (ap (λ xs. form ++ xs) (sym (run_same sum a t (drop (i + 1) terms) e))
    ∙ (ap (λ xs. form ++ collapsed_from sum a xs) (sym (ahead terms i t lt is)) ∙ h))

-- the same, where it comes to one of another run
pub collapsed_other : (terms form : List (ℤ × ℕ)) (sum : ℤ) (a i : ℕ) (t : ℤ × ℕ) → i < length terms → t ≡ get_or terms i t
    → form ++ collapsed_from sum a (drop i terms) ≡ collapsed terms → t.1 ≢ a
    → form ++ (counted (sum, a) ++ collapsed_from t.0 t.1 (drop (i + 1) terms)) ≡ collapsed terms
collapsed_other terms form sum a i t lt is h n =
    ap (λ xs. form ++ xs) (sym (run_other sum a t (drop (i + 1) terms) n))
    ∙ (ap (λ xs. form ++ collapsed_from sum a xs) (sym (ahead terms i t lt is)) ∙ h)

-- and where it has come to the end
pub collapsed_end : (terms form : List (ℤ × ℕ)) (sum : ℤ) (a i : ℕ) → length terms ≤ i
    → form ++ collapsed_from sum a (drop i terms) ≡ collapsed terms → form ++ counted (sum, a) ≡ collapsed terms
collapsed_end terms form sum a i le h = ap (λ xs. form ++ collapsed_from sum a xs) (sym (drop_all i terms le)) ∙ h

-- the runs of no terms
pub collapsed-none : (terms : List (ℤ × ℕ)) → length terms ≡ 0 → [] ≡ collapsed terms
unfolding collapsed
collapsed-none [] h = refl
collapsed-none (t ∷ ts) h = absurd (omega (arith, h))

-- where a pass begins: the first term's run is open, with the sum 0
pub collapsed_begin : (terms : List (ℤ × ℕ)) (t : ℤ × ℕ) → 0 < length terms → t ≡ get_or terms 0 t → collapsed_from (pos 0) t.1 terms ≡ collapsed terms
unfolding collapsed
collapsed_begin [] t h is = absurd (omega (arith, h))
collapsed_begin (u ∷ us) t h is = ap (λ a. collapsed_from (pos 0) a (u ∷ us)) (ap (λ x. x.1) is)
