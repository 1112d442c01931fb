-- The merged form: one term for each atom that counts, by the number of the atom.
use Rattle.std.specs.Prelude.{◌≢◌, ℕ, ◌<◌, ◌==◌, nat_lt, Bool, not, List, [], ◌∷◌, ◌++◌, filter, ℤ, pos, ◌+ℤ◌, if◌then◌else◌}
use Rattle.std.specs.Ordering.{int_eq}
use Rattle.dep_expr.specs.Linear.{LinearForm}

-- the coefficient of an atom: the sum of the coefficients of its terms
abbrev pub coefficient : ℕ → List (ℤ × ℕ) → ℤ
coefficient a [] = pos 0
coefficient a (t ∷ ts) = (if t.1 == a then t.0 else pos 0) +ℤ coefficient a ts

-- one more term, in terms that ascend by atom: added to the term of its atom, or put in its place
abbrev pub with_term : ℤ × ℕ → List (ℤ × ℕ) → List (ℤ × ℕ)
with_term t [] = t ∷ []
with_term t (u ∷ us) = if t.1 == u.1 then (t.0 +ℤ u.0, u.1) ∷ us else (if nat_lt t.1 u.1 then t ∷ (u ∷ us) else u ∷ with_term t us)

-- the terms with equal atoms added, by the number of the atom
abbrev pub gathered : List (ℤ × ℕ) → List (ℤ × ℕ)
gathered [] = []
gathered (t ∷ ts) = with_term t (gathered ts)

-- a term that counts: its coefficient is not 0
abbrev pub counts : ℤ × ℕ → Bool
counts t = not (int_eq t.0 (pos 0))

-- the terms of the merged form: equal atoms merged, zero coefficients dropped, atoms in order
unfoldable pub merged_terms : List (ℤ × ℕ) → List (ℤ × ℕ)
merged_terms ts = filter counts (gathered ts)

-- the merged form
abbrev pub merged : LinearForm → LinearForm
merged l = record { terms = merged_terms l.terms; constant = l.constant }

-- each of the atoms is above a
abbrev pub AllAbove : ℕ → List (ℤ × ℕ) → Type 0
AllAbove a [] = Unit {0}
AllAbove a (t ∷ ts) = (a < t.1) × AllAbove a ts

-- terms as `merged` leaves them: no coefficient is 0, and the atoms strictly ascend
abbrev pub AreMerged : List (ℤ × ℕ) → Type 0
AreMerged [] = Unit {0}
AreMerged (t ∷ ts) = (t.0 ≢ pos 0) × AllAbove t.1 ts × AreMerged ts

-- one term, if it counts
abbrev pub counted : ℤ × ℕ → List (ℤ × ℕ)
counted t = if counts t then t ∷ [] else []

-- the runs of equal atoms added up, where a run with this sum and atom is open
abbrev pub collapsed_from : ℤ → ℕ → List (ℤ × ℕ) → List (ℤ × ℕ)
collapsed_from sum a [] = counted (sum, a)
collapsed_from sum a (t ∷ ts) = if t.1 == a then collapsed_from (sum +ℤ t.0) a ts else counted (sum, a) ++ collapsed_from t.0 t.1 ts

-- the runs of equal atoms added up
unfoldable pub collapsed : List (ℤ × ℕ) → List (ℤ × ℕ)
collapsed [] = []
collapsed (t ∷ ts) = collapsed_from (pos 0) t.1 (t ∷ ts)
