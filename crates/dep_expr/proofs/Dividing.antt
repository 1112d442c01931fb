-- The greatest common divisor that Euclid's algorithm gives, and quotients rounded up.
use Rattle.std.proofs.Common.{◌≡◌, ◌≢◌, ℕ, zero, suc, ◌+◌, ◌-◌, ◌/◌, ◌%◌, ◌<◌, ◌==◌, Bool, true, false, ℤ, pos, negsuc, neg_ℤ, ◌≤ℤ◌, ◌<ℤ◌, arith, sym, ap, ◌∙◌, refl, unsigned_abs}
use Rattle.std.specs.Int.{IsGcd}
use Rattle.std.proofs.Math.Nat.{div-eq_of_lt}
use Rattle.std.proofs.lemmas.Int.{ints}
use Rattle.std.proofs.lemmas.Bool.{eqb-true}
use Rattle.std.proofs.lemmas.Bool.Decides.{Decides-eqb, not_from_Decides}
use Rattle.std.proofs.lemmas.Nat.{mod_below}
use Rattle.std.proofs.lemmas.Nat.Gcd.{IsGcd-from_zero, IsGcd-from_mod, same_from_IsGcd}
use Rattle.dep_expr.specs.Normed.{gcd, gcd_within, quotient_up}

IsGcd-within : (n a b : ℕ) → b < n → IsGcd a b (gcd_within n a b)
IsGcd-within zero a b h = absurd (omega (arith, h))
IsGcd-within (suc n) a b h = by (b == 0) refl (λ lt. IsGcd-within n b (a % b) lt)
  where
    by : (t : Bool) → (b == 0) ≡ t → (a % b < n → IsGcd b (a % b) (gcd_within n b (a % b))) → IsGcd a b (elim t [ true ↦ a | false ↦ gcd_within n b (a % b) ])
    by true e rest = IsGcd-from_zero a b (eqb-true b 0 e)
    by false e rest =
        let other : b ≢ 0 = not_from_Decides (b == 0) (Decides-eqb b 0) e in
        let less : a % b < b = mod_below a b (omega arith) in
        IsGcd-from_mod a b (gcd_within n b (a % b)) (rest (omega arith))

-- `gcd` is the greatest common divisor
pub IsGcd-gcd : (a b : ℕ) → IsGcd a b (gcd a b)
unfolding gcd
IsGcd-gcd a b = IsGcd-within (suc b) a b (omega arith)

-- and the only one
pub gcd_is : (a b g : ℕ) → IsGcd a b g → g ≡ gcd a b
gcd_is a b g h = same_from_IsGcd a b g (gcd a b) h (IsGcd-gcd a b)

-- the size of a quotient rounded up, by the sign
pub quotient_up-positive : (c : ℤ) (g : ℕ) → pos 0 <ℤ c → quotient_up c g ≡ pos ((unsigned_abs c + (g - 1)) / g)
quotient_up-positive (pos n) g h = refl
quotient_up-positive (negsuc n) g h = absurd (omega (arith, ints, h))

pub quotient_up-negative : (c : ℤ) (g : ℕ) → 0 < g → c ≤ℤ pos 0 → quotient_up c g ≡ neg_ℤ (pos (unsigned_abs c / g))
quotient_up-negative (pos n) g h le =
    let z : n ≡ 0 = omega (arith, ints, le) in
    ap (λ m. pos ((m + (g - 1)) / g)) z ∙ (even ∙ ap (λ m. neg_ℤ (pos (m / g))) (sym z))
  where
    even : pos ((0 + (g - 1)) / g) ≡ neg_ℤ (pos (0 / g))
    even = omega (arith, ints, div-eq_of_lt {n = 0 + (g - 1)} {m = g} (omega (arith, h)), div-eq_of_lt {n = 0} {m = g} h)
quotient_up-negative (negsuc n) g h le = refl
