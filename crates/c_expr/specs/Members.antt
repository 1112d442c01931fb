-- Fields behind `.` and `->`: how they are written, and the expression that they make of an operand.
use Rattle.std.specs.Prelude.{List}
use Rattle.c_tree.specs.declared.expressions.Expr.{Expr}
use Rattle.c_tree.specs.declared.expressions.Expr.TheVariants as expr
use Rattle.c_tree.specs.declared.signs.Sign.TheVariants as sign
use Rattle.c_tree.specs.declared.words.Token.{Token}
use Rattle.c_tree.specs.declared.words.Word.TheVariants as word
use Rattle.c_tree.specs.Reading.{Begins}
use Rattle.c_expr.specs.declared.members.Member.{Member}
use Rattle.c_expr.specs.declared.members.Member.TheVariants as member

-- The words w begin with the field m, and v stands after it.
abbrev pub IsMemberAt : List Token → Member → List Token → Type 0
IsMemberAt w (member.Field n) v = (s : List Token) × Begins w (word.Sign sign.Dot) s × Begins s (word.Name n) v
IsMemberAt w (member.Arrow n) v = (s : List Token) × Begins w (word.Sign sign.Arrow) s × Begins s (word.Name n) v

-- The field m of x.
abbrev pub selected : Expr → Member → Expr
selected x (member.Field n) = expr.Field x n
selected x (member.Arrow n) = expr.Arrow x n
