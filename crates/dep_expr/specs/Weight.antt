-- The weight of terms: a bound on every coefficient of the merged form, from which callers see that a form is small.
use Rattle.std.specs.Prelude.{ℕ, ◌+◌, List, [], ◌∷◌, ℤ, unsigned_abs}

-- the sum of the sizes of the coefficients
abbrev pub weight : List (ℤ × ℕ) → ℕ
weight [] = 0
weight (t ∷ ts) = unsigned_abs t.0 + weight ts
