-- An expression that begins with a name, where a word that binds nothing stands after it, is the name alone.
use Rattle.std.proofs.Common.{◌≡◌, ℕ, ◌+◌, List, Some, refl, ap, ◌∙◌, arith}
use Rattle.c_tree.specs.declared.expressions.Binary.{Binary}
use Rattle.c_tree.specs.declared.expressions.Expr.{Expr}
use Rattle.c_tree.specs.declared.signs.Sign.{Sign}
use Rattle.c_tree.specs.declared.signs.Sign.TheVariants as sign
use Rattle.c_tree.specs.declared.words.Token.{Token}
use Rattle.c_tree.specs.declared.words.Word.TheVariants as word
use Rattle.c_tree.specs.ExpressionGrammar.{null, Row, row, last_row, RowMore, row_end, row_more, UnaryExpr, prefixed, cast, size_of, plain, Postfix, postfix, PostfixMore, postfix_end, field, arrow, index, Primary, single, grouped, null_constant}
use Rattle.c_tree.specs.Operators.{binary_of, row_of}
use Rattle.c_tree.specs.Reading.{Begins, enclosed}
use Rattle.c_expr.specs.Strength.{operator_strength, sign_strength, front_strength, strength_at}

-- an operator binds as its row does
sign_row : (s : Sign) (o : Binary) → binary_of s ≡ Some o → sign_strength s ≡ row_of o + 1
sign_row sign.Dot o h = cc
sign_row sign.Arrow o h = cc
sign_row sign.BracketOpen o h = cc
sign_row _ o h = ap operator_strength h

primary_alone : (w q u : List Token) (n : List ℕ) (x : Expr) → Begins w (word.Name n) q → Primary w u x → u ≡ q
primary_alone w q u n x b (single s) = let p = s.begins in cc
primary_alone w q u n x b (grouped c d) = cc
primary_alone w q u n x b (null_constant (null c d e f g)) = cc

members_stay : (w v : List Token) (x y : Expr) → strength_at w ≡ 0 → PostfixMore x w v y → v ≡ w
members_stay w v x y h postfix_end = refl
members_stay w v x y h (field b c m) = let at : strength_at w ≡ sign_strength sign.Dot = ap front_strength b in absurd (omega arith)
members_stay w v x y h (arrow b c m) = let at : strength_at w ≡ sign_strength sign.Arrow = ap front_strength b in absurd (omega arith)
members_stay w v x y h (index b c m) = let at : strength_at w ≡ sign_strength sign.BracketOpen = ap front_strength b in absurd (omega arith)

row_stays : (l : ℕ) (w v : List Token) (x y : Expr) → strength_at w ≡ 0 → RowMore l x w v y → v ≡ w
row_stays l w v x y h row_end = refl
row_stays l w v x y h (row_more {o = o} b e d m) = let at : strength_at w ≡ row_of o + 1 = ap front_strength b.begins ∙ sign_row b.sign o b.means in absurd (omega arith)

postfix_alone : (w q u : List Token) (n : List ℕ) (x : Expr) → Begins w (word.Name n) q → strength_at q ≡ 0 → Postfix w u x → u ≡ q
postfix_alone w q u n x b h (postfix {u = r} {x = y} d m) =
    let first : r ≡ q = primary_alone w q r n y b d in let there : strength_at r ≡ 0 = ap strength_at first ∙ h in members_stay r u y x there m ∙ first

pub unary_alone : (w q u : List Token) (n : List ℕ) (x : Expr) → Begins w (word.Name n) q → strength_at q ≡ 0 → UnaryExpr w u x → u ≡ q
unary_alone w q u n x b h (prefixed c d) = let p = c.begins in cc
unary_alone w q u n x b h (cast (enclosed c t e) d) = cc
unary_alone w q u n x b h (size_of c t) = cc
unary_alone w q u n x b h (plain d) = postfix_alone w q u n x b h d

pub row_alone : (l : ℕ) (w q u : List Token) (n : List ℕ) (x : Expr) → Begins w (word.Name n) q → strength_at q ≡ 0 → Row l w u x → u ≡ q
row_alone l w q u n x b h (row {u = r} {x = y} lt d m) =
    let first : r ≡ q = row_alone (l + 1) w q r n y b h d in let there : strength_at r ≡ 0 = ap strength_at first ∙ h in row_stays l r u y x there m ∙ first
row_alone l w q u n x b h (last_row e d) = unary_alone w q u n x b h d
