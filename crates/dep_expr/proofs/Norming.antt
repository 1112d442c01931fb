-- Normed terms: the divisor divides each coefficient, and the normed inequality has the same solutions.
use Rattle.std.proofs.Common.{◌≡◌, ◌≢◌, ℕ, zero, suc, ◌+◌, ◌-◌, ◌*◌, ◌/◌, ◌^◌, ◌<◌, List, [], ◌∷◌, length, map, All, ℤ, pos, negsuc, ◌+ℤ◌, ◌*ℤ◌, ◌≤ℤ◌, ◌<ℤ◌, ◌↔◌, int_div, arith, sym, ap, subst, unsigned_abs}
use Prim.Native.Nat.{◌∣◌}
use Rattle.std.proofs.Math.IntN.{pos-*ℤ-pos, negsuc-*ℤ-pos, zero-*ℤ}
use Rattle.std.proofs.lemmas.Int.{ints, quot-rem, by_lt_z}
use Rattle.std.proofs.lemmas.Nat.{mod_below, div-add-mod'}
use Rattle.std.proofs.lemmas.Nat.Gcd.{dvd_trans, dvd_refl, le_of_dvd, mod-eq-zero_of_dvd}
use Rattle.std.proofs.lemmas.List.Elements.{All-head}
use Rattle.dep_expr.proofs.Integers.{add-mul, mul_swap, neg-mul}
use Rattle.dep_expr.proofs.Dividing.{IsGcd-gcd}
use Rattle.dep_expr.proofs.Merging.{AreMerged-merged, value_of-merged}
use Rattle.dep_expr.specs.Linear.{LinearForm, Assignment, IsSmallTerm, terms_value, value_of}
use Rattle.dep_expr.specs.Merged.{AreMerged, merged_terms}
use Rattle.dep_expr.specs.Normed.{gcd, divisor_from, divisor_of, divided_term, quotient_up, reduced, normed}

-- a number divides each coefficient
abbrev pub DividesAll : ℕ → List (ℤ × ℕ) → Type 0
DividesAll d [] = Unit {0}
DividesAll d (t ∷ ts) = (d ∣ unsigned_abs t.0) × DividesAll d ts

divisor_from-first : (g : ℕ) (ts : List (ℤ × ℕ)) → divisor_from g ts ∣ g
divisor_from-first g [] = dvd_refl g
divisor_from-first g (t ∷ ts) = dvd_trans (divisor_from (gcd g (unsigned_abs t.0)) ts) (divisor_from-first (gcd g (unsigned_abs t.0)) ts) (IsGcd-gcd g (unsigned_abs t.0)).0

divisor_from-all : (g : ℕ) (ts : List (ℤ × ℕ)) → DividesAll (divisor_from g ts) ts
divisor_from-all g [] = tt
divisor_from-all g (t ∷ ts) = (
  dvd_trans (divisor_from (gcd g (unsigned_abs t.0)) ts) (divisor_from-first (gcd g (unsigned_abs t.0)) ts) (IsGcd-gcd g (unsigned_abs t.0)).1,
  divisor_from-all (gcd g (unsigned_abs t.0)) ts,
)

-- the divisor divides each coefficient
pub divisor_of-all : (ts : List (ℤ × ℕ)) → DividesAll (divisor_of ts) ts
divisor_of-all ts = divisor_from-all 0 ts

abs_positive : (z : ℤ) → z ≢ pos 0 → 0 < unsigned_abs z
abs_positive (pos n) h = let other : n ≢ 0 = λ e. h (ap pos e) in omega arith
abs_positive (negsuc n) h = omega arith

dvd_positive : (d n : ℕ) → 0 < n → d ∣ n → 0 < d
dvd_positive zero n h p = absurd (omega (arith, h, zero_dvd n p))
  where
    zero_dvd : (n : ℕ) → 0 ∣ n → n ≡ 0
    zero_dvd n p = grind (arith, mod-eq-zero_of_dvd 0 p)
dvd_positive (suc d) n h p = omega arith

-- the divisor of merged terms is positive and small
pub divisor_of-merged : (ts : List (ℤ × ℕ)) → 0 < length ts → AreMerged ts → All IsSmallTerm ts → (0 < divisor_of ts) × (divisor_of ts < 2 ^ 62)
divisor_of-merged [] h m s = absurd (omega (arith, h))
divisor_of-merged (t ∷ ts) h m s =
    let n = abs_positive t.0 m.0 in
    let d = (divisor_of-all (t ∷ ts)).0 in
    let small : unsigned_abs t.0 < 2 ^ 62 = All-head IsSmallTerm t ts s in
    (dvd_positive (divisor_of (t ∷ ts)) (unsigned_abs t.0) n d, omega (arith, le_of_dvd n d))

-- a coefficient is its quotient times the divisor
exact : (z : ℤ) (d : ℕ) → d ∣ unsigned_abs z → int_div z (pos d) *ℤ pos d ≡ z
exact (pos n) d h = omega (arith, ints, quot-rem (pos n) (pos d), mod-eq-zero_of_dvd d h)
exact (negsuc n) d h = omega (arith, ints, quot-rem (negsuc n) (pos d), mod-eq-zero_of_dvd d h)

terms_value-divided : (d : ℕ) (ts : List (ℤ × ℕ)) (at : Assignment) → DividesAll d ts → terms_value (map (divided_term d) ts) at *ℤ pos d ≡ terms_value ts at
terms_value-divided d [] at h = zero-*ℤ (pos d)
terms_value-divided d (t ∷ ts) at h =
    let q = int_div t.0 (pos d) in
    omega (
      arith,
      ints,
      add-mul (q *ℤ at t.1) (terms_value (map (divided_term d) ts) at) (pos d),
      terms_value-divided d ts at h.1,
      mul_swap q (at t.1) (pos d),
      ap (λ z. z *ℤ at t.1) (exact t.0 d h.0),
    )

-- a quotient rounded up, times the divisor: at least the number, and less than it and the divisor
quotient_up_low : (c : ℤ) (d : ℕ) → 0 < d → c ≤ℤ (quotient_up c d *ℤ pos d)
quotient_up_low (pos n) d h =
    omega (arith, ints, pos-*ℤ-pos ((n + (d - 1)) / d) d, div-add-mod' (n + (d - 1)) d, mod_below (n + (d - 1)) d h)
quotient_up_low (negsuc n) d h =
    omega (arith, ints, neg-mul (pos (suc n / d)) (pos d), pos-*ℤ-pos (suc n / d) d, div-add-mod' (suc n) d)

quotient_up_high : (c : ℤ) (d : ℕ) → 0 < d → (quotient_up c d *ℤ pos d) <ℤ (c +ℤ pos d)
quotient_up_high (pos n) d h =
    omega (arith, ints, pos-*ℤ-pos ((n + (d - 1)) / d) d, div-add-mod' (n + (d - 1)) d)
quotient_up_high (negsuc n) d h =
    omega (arith, ints, neg-mul (pos (suc n / d)) (pos d), pos-*ℤ-pos (suc n / d) d, div-add-mod' (suc n) d, mod_below (suc n) d h)

-- a product with a positive number keeps the sign
keeps_low : (z : ℤ) (d : ℕ) → z ≤ℤ pos 0 → (z *ℤ pos d) ≤ℤ pos 0
keeps_low (pos n) d h = let e : n ≡ 0 = omega (arith, ints, h) in omega (arith, ints, pos-*ℤ-pos n d, ap (λ m. m * d) e)
keeps_low (negsuc n) d h = omega (arith, ints, negsuc-*ℤ-pos n d)

keeps_high : (z : ℤ) (d : ℕ) → pos 1 ≤ℤ z → pos d ≤ℤ (z *ℤ pos d)
keeps_high (pos zero) d h = absurd (omega (arith, ints, h))
keeps_high (pos (suc n)) d h = omega (arith, ints, pos-*ℤ-pos (suc n) d)
keeps_high (negsuc n) d h = absurd (omega (arith, ints, h))

-- division with the constant rounded up keeps what is at most 0
pub rounded : (x c : ℤ) (d : ℕ) → 0 < d → ((x +ℤ quotient_up c d) ≤ℤ pos 0) ↔ (((x *ℤ pos d) +ℤ c) ≤ℤ pos 0)
rounded x c d h = (to, from)
  where
    product : (x +ℤ quotient_up c d) *ℤ pos d ≡ (x *ℤ pos d) +ℤ (quotient_up c d *ℤ pos d)
    product = add-mul x (quotient_up c d) (pos d)

    to : (x +ℤ quotient_up c d) ≤ℤ pos 0 → ((x *ℤ pos d) +ℤ c) ≤ℤ pos 0
    to k = omega (arith, ints, product, keeps_low (x +ℤ quotient_up c d) d k, quotient_up_low c d h)

    from : ((x *ℤ pos d) +ℤ c) ≤ℤ pos 0 → (x +ℤ quotient_up c d) ≤ℤ pos 0
    from k = by_lt_z (pos 0) (x +ℤ quotient_up c d)
        (λ lt. absurd (omega (arith, ints, product, k, quotient_up_high c d h, keeps_high (x +ℤ quotient_up c d) d (omega (arith, ints, lt)))))
        (λ le. le)

reduced_solutions : (c : ℤ) (ts : List (ℤ × ℕ)) (at : Assignment) → AreMerged ts
    → (value_of (reduced c ts) at ≤ℤ pos 0) ↔ (value_of (record { terms = ts; constant = c }) at ≤ℤ pos 0)
unfolding value_of
reduced_solutions c [] at m = ((λ h. h), (λ h. h))
reduced_solutions c (t ∷ ts) at m =
    let d = divisor_of (t ∷ ts) in
    let positive = dvd_positive d (unsigned_abs t.0) (abs_positive t.0 m.0) (divisor_of-all (t ∷ ts)).0 in
    let e = terms_value-divided d (t ∷ ts) at (divisor_of-all (t ∷ ts)) in
    subst (λ (v : ℤ). ((terms_value (map (divided_term d) (t ∷ ts)) at +ℤ quotient_up c d) ≤ℤ pos 0) ↔ ((v +ℤ c) ≤ℤ pos 0)) e
    (rounded (terms_value (map (divided_term d) (t ∷ ts)) at) c d positive)

-- the normed inequality has the solutions of the given one
pub normed_solutions : (l : LinearForm) (at : Assignment) → (value_of (normed l) at ≤ℤ pos 0) ↔ (value_of l at ≤ℤ pos 0)
normed_solutions l at =
    subst (λ (v : ℤ). (value_of (normed l) at ≤ℤ pos 0) ↔ (v ≤ℤ pos 0)) (value_of-merged l at)
    (reduced_solutions l.constant (merged_terms l.terms) at (AreMerged-merged l.terms))

-- the same, for a form that equals the normed one
pub normed_same : (s l : LinearForm) → s ≡ normed l → (at : Assignment) → (value_of s at ≤ℤ pos 0) ↔ (value_of l at ≤ℤ pos 0)
normed_same s l e at = subst (λ (f : LinearForm). (value_of f at ≤ℤ pos 0) ↔ (value_of l at ≤ℤ pos 0)) (sym e) (normed_solutions l at)
