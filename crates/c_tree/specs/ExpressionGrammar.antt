-- The grammar of expressions (C99, 6.5), one constructor for each alternative and one level for each row of binary
-- operators. Each relation says that the words w begin with a phrase of that meaning, and that v is what stands after it.
use Rattle.std.specs.Prelude.{◌≡◌, ℕ, ◌+◌, ◌<◌, List, [], Option, None, Some}
use Rattle.c_tree.specs.declared.expressions.Binary.{Binary}
use Rattle.c_tree.specs.declared.expressions.Expr.{Expr}
use Rattle.c_tree.specs.declared.expressions.Expr.TheVariants as expr
use Rattle.c_tree.specs.declared.expressions.Unary.{Unary}
use Rattle.c_tree.specs.declared.keywords.Keyword.TheVariants as keyword
use Rattle.c_tree.specs.declared.signs.Sign.{Sign}
use Rattle.c_tree.specs.declared.signs.Sign.TheVariants as sign
use Rattle.c_tree.specs.declared.types.TypeName.{TypeName}
use Rattle.c_tree.specs.declared.words.Suffix.TheVariants as suffix
use Rattle.c_tree.specs.declared.words.Token.{Token}
use Rattle.c_tree.specs.declared.words.Word.{Word}
use Rattle.c_tree.specs.declared.words.Word.TheVariants as word
use Rattle.c_tree.specs.Operators.{UnaryAt, BinaryAt, row_of, rows}
use Rattle.c_tree.specs.Reading.{Begins}
use Rattle.c_tree.specs.TypeGrammar.{InParens}

-- The expressions of one word: NUMBER, CHARACTER, STRING and NAME.
abbrev pub single_of : Word → Option Expr
single_of (word.Number n s) = Some (expr.Number (record { value = n; suffix = s }))
single_of (word.Character c) = Some (expr.Character c)
single_of (word.String s k) = Some (expr.String s k)
single_of (word.Name n) = Some (expr.Name n)
single_of _ = None

-- The words w begin with a word that is the expression x by itself, and v stands after it.
pub record SingleAt (w v : List Token) (x : Expr) : Type 0 where
  pub word : Word
  pub begins : Begins w word v
  pub means : single_of word ≡ Some x

-- '(' 'void' '*' ')' '0', where the last word is a number of value 0 without suffix.
pub data NullAt : List Token → List Token → Type 0 where
  null : {w a b c d v : List Token} → Begins w (word.Sign sign.ParenOpen) a → Begins a (word.Keyword keyword.Void) b → Begins b (word.Sign sign.Star) c
      → Begins c (word.Sign sign.ParenClose) d → Begins d (word.Number 0 suffix.Plain) v → NullAt w v

mutual
  -- The row l: an operand of the next row, then any number of operators of this row, each with its right operand.
  -- Behind the last row stands Unary.
  pub data Row : ℕ → List Token → List Token → Expr → Type 0 where
    row : {l : ℕ} {w u v : List Token} {x y : Expr} → l < rows → Row (l + 1) w u x → RowMore l x u v y → Row l w v y
    last_row : {l : ℕ} {w v : List Token} {x : Expr} → l ≡ rows → UnaryExpr w v x → Row l w v x

  -- What stands after the left operand x of the row l. Operators of one row take their left operands from the left.
  pub data RowMore : ℕ → Expr → List Token → List Token → Expr → Type 0 where
    row_end : {l : ℕ} {w : List Token} {x : Expr} → RowMore l x w w x
    row_more : {l : ℕ} {o : Binary} {w s u v : List Token} {x y z : Expr} → BinaryAt w o s → row_of o ≡ l → Row (l + 1) s u y
        → RowMore l (expr.Binary o x y) u v z → RowMore l x w v z

  -- Unary: an operator before an operand, a cast, 'sizeof' with a type name, or Postfix (C99, 6.5.3 and 6.5.4).
  pub data UnaryExpr : List Token → List Token → Expr → Type 0 where
    prefixed : {o : Unary} {w u v : List Token} {x : Expr} → UnaryAt w o u → UnaryExpr u v x → UnaryExpr w v (expr.Unary o x)
    cast : {t : TypeName} {w u v : List Token} {x : Expr} → InParens w u t → UnaryExpr u v x → UnaryExpr w v (expr.Cast t x)
    size_of : {t : TypeName} {w u v : List Token} → Begins w (word.Keyword keyword.Sizeof) u → InParens u v t → UnaryExpr w v (expr.Sizeof t)
    plain : {w v : List Token} {x : Expr} → Postfix w v x → UnaryExpr w v x

  -- Postfix: a primary expression with its fields and indices (C99, 6.5.2).
  pub data Postfix : List Token → List Token → Expr → Type 0 where
    postfix : {w u v : List Token} {x y : Expr} → Primary w u x → PostfixMore x u v y → Postfix w v y

  -- What stands after the operand x: any number of '.' NAME, '->' NAME and '[' Expr ']'.
  pub data PostfixMore : Expr → List Token → List Token → Expr → Type 0 where
    postfix_end : {w : List Token} {x : Expr} → PostfixMore x w w x
    field : {n : List ℕ} {w s u v : List Token} {x y : Expr} → Begins w (word.Sign sign.Dot) s → Begins s (word.Name n) u
        → PostfixMore (expr.Field x n) u v y → PostfixMore x w v y
    arrow : {n : List ℕ} {w s u v : List Token} {x y : Expr} → Begins w (word.Sign sign.Arrow) s → Begins s (word.Name n) u
        → PostfixMore (expr.Arrow x n) u v y → PostfixMore x w v y
    index : {w s u v : List Token} {x y z : Expr} → Begins w (word.Sign sign.BracketOpen) s → Closed sign.BracketClose s u y
        → PostfixMore (expr.Index x y) u v z → PostfixMore x w v z

  -- Primary: one word, an expression in parentheses, or the null constant (C99, 6.5.1).
  pub data Primary : List Token → List Token → Expr → Type 0 where
    single : {w v : List Token} {x : Expr} → SingleAt w v x → Primary w v x
    grouped : {w u v : List Token} {x : Expr} → Begins w (word.Sign sign.ParenOpen) u → Closed sign.ParenClose u v x → Primary w v (expr.Grouped x)
    null_constant : {w v : List Token} → NullAt w v → Primary w v expr.Null

  -- An expression and the sign that closes it.
  pub data Closed : Sign → List Token → List Token → Expr → Type 0 where
    closed : {s : Sign} {w u v : List Token} {x : Expr} → Row 0 w u x → Begins u (word.Sign s) v → Closed s w v x

-- The words w, all of them, are the expression x.
abbrev pub IsExpr : List Token → Expr → Type 0
IsExpr w x = Row 0 w [] x
