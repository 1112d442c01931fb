-- Sums that stay below the limit of the machine's numbers, whatever values of 32 bits their atoms have: by weight. Each sum of a check and of a pointer's
-- bounds that the rules derive is light by far.
use Rattle.std.specs.Prelude.{◌≡◌, ℕ, ◌+◌, ◌*◌, ◌^◌, ◌<◌, nat_lt, Bool, true, ◌&&◌, IsTrue, List, [], ◌∷◌, ℤ, pos, ◌*ℤ◌, unsigned_abs, Ok, slice_get, slice_index_or}
use Rattle.dep_expr.specs.Linear.{LinearForm, value_of}
use Rattle.dep_expr.specs.Weight.{weight}
use Rattle.checked_tree.specs.declared.expressions.CheckedExpr.{CheckedExpr}
use Rattle.checked_tree.specs.declared.expressions.CheckedExpr.TheOpen as E
use Rattle.checked_tree.specs.declared.expressions.CheckedExpr.TheFolds.{fold-CheckedExpr}
use Rattle.checked_tree.specs.declared.shapes.Shape.{Shape}
use Rattle.checked_tree.specs.declared.sums.Part.{Part}
use Rattle.checked_tree.specs.declared.sums.Part.TheVariants.{Constant, Atom}
use Rattle.checked_tree.specs.declared.sums.Sum.{Sum}
use Rattle.checked_tree.specs.Outcome.{Got}
use Rattle.checked_tree.specs.Numbers.{is_value, sum_limit}
use Rattle.checked_tree.specs.Conditions.{State, peek, atom_value, form_value}
use Rattle.checked_tree.specs.Operands.{sum_value}
use Rattle.checked_tree.specs.Ranges.{are_in_range}
use Rattle.checked_tree.specs.Known.{number_or_zero, atom_numbers}

-- ---- forms over atoms
-- an outcome that is a value of 32 bits
abbrev pub HasWord : Got → Type 0
HasWord r = (v : ℤ) × (r ≡ Ok v) × IsTrue (is_value v)

-- each atom of the terms has one
abbrev pub HaveWords : List CheckedExpr → State → List (ℤ × ℕ) → Type 0
HaveWords atoms s [] = Unit {0}
HaveWords atoms s (t ∷ ts) = HasWord (atom_value s (slice_get atoms t.1)) × HaveWords atoms s ts

-- a form that stays below the limit
abbrev pub StaysBelow : LinearForm → Type 0
StaysBelow l = unsigned_abs l.constant + weight l.terms * 2 ^ 32 < sum_limit

-- such a form has its value: it is never past the limit
abbrev pub LightFormsHaveValues : Type 0
LightFormsHaveValues =
    (atoms : List CheckedExpr) (s : State) (l : LinearForm)
    → StaysBelow l → HaveWords atoms s l.terms → form_value atoms s l ≡ Ok (value_of l (atom_numbers atoms s))

-- ---- sums over expressions
-- how far a part can be from 0
abbrev pub reach : Part → ℕ
reach (Constant times value) = unsigned_abs times * unsigned_abs value
reach (Atom times atom) = unsigned_abs times * 2 ^ 32

abbrev pub reach_of : List Part → ℕ
reach_of [] = 0
reach_of (p ∷ ps) = reach p + reach_of ps

-- each expression of the parts has a value of 32 bits
abbrev pub PartHasWord : State → Part → Type 0
PartHasWord s (Constant times value) = Unit {0}
PartHasWord s (Atom times atom) = HasWord (peek s atom)

abbrev pub PartsHaveWords : State → List Part → Type 0
PartsHaveWords s [] = Unit {0}
PartsHaveWords s (p ∷ ps) = PartHasWord s p × PartsHaveWords s ps

-- a sum that reaches less far than the limit has a value
abbrev pub LightSumsHaveValues : Type 0
LightSumsHaveValues = (s : State) (l : Sum) → reach_of l.parts < sum_limit → PartsHaveWords s l.parts → (v : ℤ) × (sum_value s l ≡ Ok v)

-- ---- the values of atoms
-- each slot has a value of 32 bits
abbrev pub SlotsHaveWords : State → Type 0
SlotsHaveWords s = (k : ℕ) → IsTrue (is_value (slice_index_or s.locals k (pos 0)))

-- each block of an expression begins at an address of 32 bits
abbrev pub blocks_level : E.CheckedExpr-F Bool → Bool
blocks_level (E.Number value scalar) = true
blocks_level E.Null = true
blocks_level (E.Local slot) = true
blocks_level (E.Block base) = nat_lt base (2 ^ 32)
blocks_level (E.Through pointer checks) = pointer
blocks_level (E.Element pointer index size checks) = pointer && index
blocks_level (E.Field place offset checks) = place
blocks_level (E.Load scalar place) = place
blocks_level (E.AddressOf place) = place
blocks_level (E.Moved sum pointer by size checks) = pointer && by
blocks_level (E.Unary op scalar of) = of
blocks_level (E.Binary op scalar left right checks) = left && right
blocks_level (E.Compare op scalar left right) = left && right
blocks_level (E.Logical op left right) = left && right

unfoldable pub blocks_fit : CheckedExpr → Bool
blocks_fit e = fold-CheckedExpr Bool blocks_level e

-- then its value, if it has one, has 32 bits
abbrev pub PeekedIsWord : Type 0
PeekedIsWord = (s : State) (e : CheckedExpr) → SlotsHaveWords s → IsTrue (blocks_fit e) → (v : ℤ) → peek s e ≡ Ok v → IsTrue (is_value v)

-- and so have the slots of a frame whose locals are in range
abbrev pub InRangeHasWords : Type 0
InRangeHasWords = (shapes : List Shape) (s : State) → IsTrue (are_in_range shapes s.locals) → SlotsHaveWords s
