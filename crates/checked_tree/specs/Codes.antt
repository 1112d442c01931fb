-- The code of an expression: numbers that tell its bare form from all others. A node is its form's number, what it holds beside its
-- parts, and the codes of its parts; the numbers of checks are left out.
use Rattle.std.specs.Prelude.{ℕ, ◌+◌, Bool, List, [], ◌∷◌, ◌++◌, ℤ, pos, negsuc}
use Rattle.std.specs.Str.{bytes_eq}
use Rattle.checked_tree.specs.declared.shapes.Scalar.{Scalar}
use Rattle.checked_tree.specs.declared.shapes.Scalar.TheVariants as scalar
use Rattle.checked_tree.specs.declared.expressions.Unary.{Unary}
use Rattle.checked_tree.specs.declared.expressions.Unary.TheVariants as unary
use Rattle.checked_tree.specs.declared.expressions.Arithmetic.{Arithmetic}
use Rattle.checked_tree.specs.declared.expressions.Arithmetic.TheVariants as arithmetic
use Rattle.checked_tree.specs.declared.expressions.Comparison.{Comparison}
use Rattle.checked_tree.specs.declared.expressions.Comparison.TheVariants as comparison
use Rattle.checked_tree.specs.declared.expressions.Logic.{Logic}
use Rattle.checked_tree.specs.declared.expressions.Logic.TheVariants as logic
use Rattle.checked_tree.specs.declared.expressions.PointerSum.{PointerSum}
use Rattle.checked_tree.specs.declared.expressions.PointerSum.TheVariants as sum
use Rattle.checked_tree.specs.declared.expressions.CheckedExpr.{CheckedExpr}
use Rattle.checked_tree.specs.declared.expressions.CheckedExpr.TheOpen as E
use Rattle.checked_tree.specs.declared.expressions.CheckedExpr.TheFolds.{fold-CheckedExpr}

abbrev pub scalar_number : Scalar → ℕ
scalar_number scalar.Void = 0
scalar_number scalar.U8 = 1
scalar_number scalar.I8 = 2
scalar_number scalar.U16 = 3
scalar_number scalar.I16 = 4
scalar_number scalar.I32 = 5
scalar_number scalar.U32 = 6
scalar_number (scalar.Pointer size) = size + 7

abbrev pub unary_number : Unary → ℕ
unary_number unary.Plus = 0
unary_number unary.Negative = 1
unary_number unary.Complement = 2
unary_number unary.Not = 3
unary_number unary.Cast = 4

abbrev pub arithmetic_number : Arithmetic → ℕ
arithmetic_number arithmetic.Add = 0
arithmetic_number arithmetic.Subtract = 1
arithmetic_number arithmetic.Multiply = 2
arithmetic_number arithmetic.Divide = 3
arithmetic_number arithmetic.Remainder = 4
arithmetic_number arithmetic.And = 5
arithmetic_number arithmetic.Or = 6
arithmetic_number arithmetic.Xor = 7
arithmetic_number arithmetic.ShiftLeft = 8
arithmetic_number arithmetic.ShiftRight = 9

abbrev pub comparison_number : Comparison → ℕ
comparison_number comparison.Less = 0
comparison_number comparison.LessEqual = 1
comparison_number comparison.Greater = 2
comparison_number comparison.GreaterEqual = 3
comparison_number comparison.Equal = 4
comparison_number comparison.NotEqual = 5

abbrev pub logic_number : Logic → ℕ
logic_number logic.And = 0
logic_number logic.Or = 1

abbrev pub sum_number : PointerSum → ℕ
sum_number sum.PointerPlus = 0
sum_number sum.PlusPointer = 1
sum_number sum.PointerMinus = 2

-- a whole number in two: whether it is negative, and how far from 0, or from -1 where it is
abbrev pub sign : ℤ → ℕ
sign (pos n) = 0
sign (negsuc n) = 1

abbrev pub distance : ℤ → ℕ
distance (pos n) = n
distance (negsuc n) = n

-- one level, from the codes of its parts
abbrev pub code_level : E.CheckedExpr-F (List ℕ) → List ℕ
code_level (E.Number value s) = 0 ∷ sign value ∷ distance value ∷ scalar_number s ∷ []
code_level E.Null = 1 ∷ []
code_level (E.Local slot) = 2 ∷ slot ∷ []
code_level (E.Block base) = 3 ∷ base ∷ []
code_level (E.Through pointer checks) = 4 ∷ pointer
code_level (E.Element pointer index size checks) = 5 ∷ size ∷ (pointer ++ index)
code_level (E.Field place offset checks) = 6 ∷ offset ∷ place
code_level (E.Load s place) = 7 ∷ scalar_number s ∷ place
code_level (E.AddressOf place) = 8 ∷ place
code_level (E.Moved op pointer by size checks) = 9 ∷ sum_number op ∷ size ∷ (pointer ++ by)
code_level (E.Unary op s of) = 10 ∷ unary_number op ∷ scalar_number s ∷ of
code_level (E.Binary op s left right checks) = 11 ∷ arithmetic_number op ∷ scalar_number s ∷ (left ++ right)
code_level (E.Compare op s left right) = 12 ∷ comparison_number op ∷ scalar_number s ∷ (left ++ right)
code_level (E.Logical op left right) = 13 ∷ logic_number op ∷ (left ++ right)

-- the code of an expression
unfoldable pub code : CheckedExpr → List ℕ
code e = fold-CheckedExpr (List ℕ) code_level e

-- whether two expressions are equal: their codes are, and so their bare forms
unfoldable pub is_same : CheckedExpr → CheckedExpr → Bool
is_same a b = bytes_eq (code a) (code b)
