-- Numbers that name a thing of which there are so many.
use Rattle.std.specs.Prelude.{ℕ, cond, ltb, ℤ, pos, negsuc, Option, Some, None}

-- the number as one of 0, 1, .., up to the bound and without it, if it is one
abbrev pub number_of : ℕ → ℤ → Option ℕ
number_of bound (pos n) = cond (ltb n bound) (Some n) None
number_of bound (negsuc n) = None
