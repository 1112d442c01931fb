-- A linear form: a sum over atoms with whole coefficients, and a constant. Its value, the sums and multiples of forms, and when a form is small.
use Rattle.std.specs.Prelude.{ℕ, ◌<◌, ◌≤◌, ◌^◌, ◌==◌, List, [], ◌∷◌, ◌++◌, map, take, length, ℤ, pos, ◌+ℤ◌, ◌*ℤ◌, unsigned_abs, if◌then◌else◌, All, slice_index_or}

-- a sum over atoms: its terms, each a coefficient and the number of an atom, and a constant
pub record LinearForm : Type 0 where
  pub terms : List (ℤ × ℕ)
  pub constant : ℤ

-- what gives each atom a whole number
abbrev pub Assignment : Type 0
Assignment = ℕ → ℤ

-- the assignment that a list of numbers gives: each atom has the number at its place, and 0 past the end
abbrev pub numbers_at : List ℤ → Assignment
numbers_at numbers a = slice_index_or numbers a (pos 0)

-- the assignment that gives one atom another number
abbrev pub with_number : Assignment → ℕ → ℤ → Assignment
with_number at a z b = if b == a then z else at b

-- the value of terms: the sum of each coefficient times the number of its atom
abbrev pub terms_value : List (ℤ × ℕ) → Assignment → ℤ
terms_value [] at = pos 0
terms_value (t ∷ ts) at = (t.0 *ℤ at t.1) +ℤ terms_value ts at

-- the value of a form: that of its terms, plus the constant
unfoldable pub value_of : LinearForm → Assignment → ℤ
value_of l at = terms_value l.terms at +ℤ l.constant

-- the form of a number alone
abbrev pub number_form : ℤ → LinearForm
number_form c = record { terms = []; constant = c }

-- the form of one term alone
abbrev pub term_form : ℤ × ℕ → LinearForm
term_form t = record { terms = t ∷ []; constant = pos 0 }

-- the sum of two forms: the terms of the second after those of the first, and the sum of the constants
abbrev pub plus : LinearForm → LinearForm → LinearForm
plus l m = record { terms = l.terms ++ m.terms; constant = l.constant +ℤ m.constant }

-- a term with its coefficient multiplied
abbrev pub scaled_term : ℤ → ℤ × ℕ → ℤ × ℕ
scaled_term by t = (t.0 *ℤ by, t.1)

-- the multiple of a form: each coefficient and the constant times the number
abbrev pub scaled : LinearForm → ℤ → LinearForm
scaled l by = record { terms = map (scaled_term by) l.terms; constant = l.constant *ℤ by }

-- what stands for a term where `by` is put in the place of the atom `a`
abbrev pub part_of : ℕ → LinearForm → ℤ × ℕ → LinearForm
part_of a by t = if t.1 == a then scaled by t.0 else term_form t

-- a form, plus what stands for each of the terms
abbrev pub plus_parts : ℕ → LinearForm → LinearForm → List (ℤ × ℕ) → LinearForm
plus_parts a by sum [] = sum
plus_parts a by sum (t ∷ ts) = plus_parts a by (plus sum (part_of a by t)) ts

-- the form with `by` in the place of the atom `a`
abbrev pub substituted : LinearForm → ℕ → LinearForm → LinearForm
substituted l a by = plus_parts a by (number_form l.constant) l.terms

-- a coefficient that is below 2^62 in size
abbrev pub IsSmallTerm : ℤ × ℕ → Type 0
IsSmallTerm t = unsigned_abs t.0 < 2 ^ 62

-- a form is small where its coefficients are below 2^62 and its constant below 2^100 in size
pub record IsSmall (l : LinearForm) : Type 0 where
  pub coefficients : All IsSmallTerm l.terms
  pub constant : unsigned_abs l.constant < 2 ^ 100

-- the form with `by` in the place of `a` is small, and so is each sum on the way to it
abbrev pub IsSmallThroughout : LinearForm → ℕ → LinearForm → Type 0
IsSmallThroughout l a by = (k : ℕ) → k ≤ length l.terms → IsSmall (plus_parts a by (number_form l.constant) (take k l.terms))

-- numbers at which a form of at most 65,536 terms has a value of 128 bits: each below 2^33 in size
abbrev pub AreWords : List ℤ → Type 0
AreWords numbers = All (λ z. unsigned_abs z < 2 ^ 33) numbers
