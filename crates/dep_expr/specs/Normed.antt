-- The normed form of an inequality's left side: merged, and divided by the greatest common divisor of its coefficients, the constant rounded up.
use Rattle.std.specs.Prelude.{ℕ, zero, suc, ◌+◌, ◌-◌, ◌/◌, ◌%◌, ◌==◌, true, false, List, [], ◌∷◌, map, ℤ, pos, negsuc, neg_ℤ, int_div, unsigned_abs}
use Rattle.dep_expr.specs.Linear.{LinearForm}
use Rattle.dep_expr.specs.Merged.{merged}

-- Euclid's algorithm, for at most n remainders
abbrev pub gcd_within : ℕ → ℕ → ℕ → ℕ
gcd_within zero a b = a
gcd_within (suc n) a b = elim (b == 0) [ true ↦ a | false ↦ gcd_within n b (a % b) ]

-- the greatest common divisor of two numbers
unfoldable pub gcd : ℕ → ℕ → ℕ
gcd a b = gcd_within (suc b) a b

-- the greatest common divisor of g and all coefficients
abbrev pub divisor_from : ℕ → List (ℤ × ℕ) → ℕ
divisor_from g [] = g
divisor_from g (t ∷ ts) = divisor_from (gcd g (unsigned_abs t.0)) ts

-- the greatest common divisor of the coefficients
abbrev pub divisor_of : List (ℤ × ℕ) → ℕ
divisor_of ts = divisor_from 0 ts

-- the quotient, rounded up
abbrev pub quotient_up : ℤ → ℕ → ℤ
quotient_up (pos n) g = pos ((n + (g - 1)) / g)
quotient_up (negsuc n) g = neg_ℤ (pos (suc n / g))

-- a term with its coefficient divided
abbrev pub divided_term : ℕ → ℤ × ℕ → ℤ × ℕ
divided_term g t = (int_div t.0 (pos g), t.1)

-- the coefficients and the constant divided, the constant rounded up; a number alone stays as it is
abbrev pub reduced : ℤ → List (ℤ × ℕ) → LinearForm
reduced c [] = record { terms = []; constant = c }
reduced c (t ∷ ts) = record { terms = map (divided_term (divisor_of (t ∷ ts))) (t ∷ ts); constant = quotient_up c (divisor_of (t ∷ ts)) }

-- the normed form
abbrev pub normed : LinearForm → LinearForm
normed l = reduced l.constant (merged l).terms
