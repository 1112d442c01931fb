-- Sums that stay below the machine's limit: which forms and sums are so small that no numbers of 32 bits take them there, and what they
-- come to where nothing is limited.
use Rattle.std.specs.Prelude.{◌≡◌, ℕ, ◌<◌, ◌^◌, IsTrue, List, [], ◌∷◌, ℤ, pos, ◌+ℤ◌, ◌*ℤ◌, unsigned_abs, Option, Some, None, Ok, slice_get}
use Rattle.dep_expr.specs.Linear.{LinearForm}
use Rattle.dep_expr.specs.Weight.{weight}
use Rattle.checked_tree.specs.declared.checks.Check.{Check}
use Rattle.checked_tree.specs.declared.checks.Cond.{Cond}
use Rattle.checked_tree.specs.declared.checks.Cond.TheVariants as cond
use Rattle.checked_tree.specs.declared.expressions.CheckedExpr.{CheckedExpr}
use Rattle.checked_tree.specs.declared.sums.Part.{Part}
use Rattle.checked_tree.specs.declared.sums.Part.TheVariants.{Constant, Atom}
use Rattle.checked_tree.specs.declared.sums.Sum.{Sum}
use Rattle.checked_tree.specs.Outcome.{Got, ◌>>=◌}
use Rattle.checked_tree.specs.Numbers.{is_value}
use Rattle.checked_tree.specs.Conditions.{State, peek, atom_value}
use Rattle.checked_tree.specs.Operands.{part_value}

-- a form whose coefficients come to less than 2^62 together, and whose constant is below 2^100
pub record IsSmallForm (l : LinearForm) : Type 0 where
  pub coefficients : weight l.terms < 2 ^ 62
  pub constant : unsigned_abs l.constant < 2 ^ 100

abbrev pub IsSmallOptional : Option LinearForm → Type 0
IsSmallOptional None = Unit {0}
IsSmallOptional (Some l) = IsSmallForm l

-- a check each of whose forms is small
abbrev pub IsSmallCond : Cond → Type 0
IsSmallCond (cond.Le i) = IsSmallForm i.left × IsSmallOptional i.guard
IsSmallCond (cond.Aligned gap size guard) = IsSmallForm gap × IsSmallForm guard
IsSmallCond (cond.NonZero l) = IsSmallForm l
IsSmallCond (cond.Equal l z) = IsSmallForm l
IsSmallCond (cond.Term at new) = IsSmallForm at × IsSmallOptional new
IsSmallCond (cond.Kept tag new at size) = IsSmallForm tag × IsSmallForm new × IsSmallForm at

abbrev pub IsSmallCheck : Check → Type 0
IsSmallCheck c = IsSmallCond c.cond

-- each atom that has a value has one of 32 bits
abbrev pub AtomsFit : List CheckedExpr → State → Type 0
AtomsFit atoms s = (k : ℕ) (v : ℤ) → atom_value s (slice_get atoms k) ≡ Ok v → IsTrue (is_value v)

-- each expression of the parts that has a value has one of 32 bits
abbrev pub PartFits : State → Part → Type 0
PartFits s (Constant times value) = Unit {0}
PartFits s (Atom times e) = (v : ℤ) → peek s e ≡ Ok v → IsTrue (is_value v)

abbrev pub PartsFit : State → List Part → Type 0
PartsFit s [] = Unit {0}
PartsFit s (p ∷ ps) = PartFits s p × PartsFit s ps

-- the value of a form where nothing is limited
abbrev pub free_from : List CheckedExpr → State → List (ℤ × ℕ) → ℤ → Got
free_from atoms s [] sum = Ok sum
free_from atoms s (t ∷ ts) sum = atom_value s (slice_get atoms t.1) >>= λ v. free_from atoms s ts (sum +ℤ (t.0 *ℤ v))

abbrev pub free_form_value : List CheckedExpr → State → LinearForm → Got
free_form_value atoms s l = free_from atoms s l.terms l.constant

-- the value of a sum where nothing is limited
abbrev pub free_parts_from : State → List Part → ℤ → Got
free_parts_from s [] sum = Ok sum
free_parts_from s (p ∷ ps) sum = part_value s p >>= λ v. free_parts_from s ps (sum +ℤ v)

abbrev pub free_sum_value : State → Sum → Got
free_sum_value s l = free_parts_from s l.parts (pos 0)
