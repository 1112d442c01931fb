-- Lists without their first or last element that passes a test, and numbers below a bound.
use Rattle.std.specs.Prelude.{ℕ, Bool, false, cond, ltb, List, [], ◌∷◌, ℤ, pos, negsuc, Option, Some, None}
use Rattle.std.specs.List.{list_any}

-- the list without its first element that passes
abbrev pub without_first : {X : Type 0} → (X → Bool) → List X → List X
without_first test [] = []
without_first test (x ∷ xs) = cond (test x) xs (x ∷ without_first test xs)

-- the list without its last element that passes
abbrev pub without_last : {X : Type 0} → (X → Bool) → List X → List X
without_last test [] = []
without_last test (x ∷ xs) = cond (list_any test xs) (x ∷ without_last test xs) (cond (test x) xs (x ∷ xs))

-- the last element that passes, which is the oldest where the newest stands first
abbrev pub find_last : {X : Type 0} → (X → Bool) → List X → Option X
find_last test [] = None
find_last test (x ∷ xs) = cond (list_any test xs) (find_last test xs) (cond (test x) (Some x) None)

-- a test of what may be missing
abbrev pub passes : {X : Type 0} → (X → Bool) → Option X → Bool
passes test None = false
passes test (Some x) = test x

-- the number is one of 0, 1, .., up to the bound and without it
abbrev pub is_below : ℕ → ℤ → Bool
is_below bound (pos n) = ltb n bound
is_below bound (negsuc n) = false
