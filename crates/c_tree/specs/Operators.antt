-- The operators: which sign is which, and the ten rows of the binary ones, weakest first.
use Rattle.std.specs.Prelude.{◌≡◌, ℕ, List, Option, None, Some}
use Rattle.c_tree.specs.declared.expressions.Binary.{Binary}
use Rattle.c_tree.specs.declared.expressions.Binary.TheVariants as binary
use Rattle.c_tree.specs.declared.expressions.Unary.{Unary}
use Rattle.c_tree.specs.declared.expressions.Unary.TheVariants as unary
use Rattle.c_tree.specs.declared.signs.Sign.{Sign}
use Rattle.c_tree.specs.declared.signs.Sign.TheVariants as sign
use Rattle.c_tree.specs.declared.words.Token.{Token}
use Rattle.c_tree.specs.declared.words.Word.TheVariants as word
use Rattle.c_tree.specs.Reading.{Begins}

-- The operators before an operand (C99, 6.5.3).
abbrev pub unary_of : Sign → Option Unary
unary_of sign.Minus = Some unary.Minus
unary_of sign.Tilde = Some unary.Complement
unary_of sign.Exclamation = Some unary.Not
unary_of sign.Plus = Some unary.Plus
unary_of sign.Star = Some unary.Dereference
unary_of sign.Ampersand = Some unary.Address
unary_of _ = None

-- The operators between two operands (C99, 6.5.5 to 6.5.14).
abbrev pub binary_of : Sign → Option Binary
binary_of sign.Bars = Some binary.LogicalOr
binary_of sign.Ampersands = Some binary.LogicalAnd
binary_of sign.Bar = Some binary.BitOr
binary_of sign.Caret = Some binary.BitXor
binary_of sign.Ampersand = Some binary.BitAnd
binary_of sign.Equal = Some binary.Equal
binary_of sign.NotEqual = Some binary.NotEqual
binary_of sign.Less = Some binary.Less
binary_of sign.Greater = Some binary.Greater
binary_of sign.LessEqual = Some binary.LessEqual
binary_of sign.GreaterEqual = Some binary.GreaterEqual
binary_of sign.ShiftLeft = Some binary.ShiftLeft
binary_of sign.ShiftRight = Some binary.ShiftRight
binary_of sign.Plus = Some binary.Add
binary_of sign.Minus = Some binary.Subtract
binary_of sign.Star = Some binary.Multiply
binary_of sign.Slash = Some binary.Divide
binary_of sign.Percent = Some binary.Remainder
binary_of _ = None

-- The rows: `||`, `&&`, `|`, `^`, `&`, `== !=`, `< > <= >=`, `<< >>`, `+ -`, `* / %`.
abbrev pub row_of : Binary → ℕ
row_of binary.LogicalOr = 0
row_of binary.LogicalAnd = 1
row_of binary.BitOr = 2
row_of binary.BitXor = 3
row_of binary.BitAnd = 4
row_of binary.Equal = 5
row_of binary.NotEqual = 5
row_of binary.Less = 6
row_of binary.Greater = 6
row_of binary.LessEqual = 6
row_of binary.GreaterEqual = 6
row_of binary.ShiftLeft = 7
row_of binary.ShiftRight = 7
row_of binary.Add = 8
row_of binary.Subtract = 8
row_of binary.Multiply = 9
row_of binary.Divide = 9
row_of binary.Remainder = 9

-- How many rows there are.
abbrev pub rows : ℕ
rows = 10

-- The words w begin with the operator o before an operand, and v stands after it.
pub record UnaryAt (w : List Token) (o : Unary) (v : List Token) : Type 0 where
  pub sign : Sign
  pub begins : Begins w (word.Sign sign) v
  pub means : unary_of sign ≡ Some o

-- The words w begin with the operator o between two operands, and v stands after it.
pub record BinaryAt (w : List Token) (o : Binary) (v : List Token) : Type 0 where
  pub sign : Sign
  pub begins : Begins w (word.Sign sign) v
  pub means : binary_of sign ≡ Some o
