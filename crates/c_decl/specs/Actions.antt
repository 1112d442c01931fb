-- What a simple statement goes on with, behind its beginning.
use Rattle.std.specs.Prelude.{ℕ, List, Option, None, Some}
use Rattle.c_tree.specs.declared.expressions.Expr.{Expr}
use Rattle.c_tree.specs.declared.signs.Sign.TheVariants as sign
use Rattle.c_tree.specs.declared.statements.Action.{Action}
use Rattle.c_tree.specs.declared.statements.Action.TheVariants as action
use Rattle.c_tree.specs.declared.words.Token.{Token}
use Rattle.c_tree.specs.declared.words.Word.TheVariants as word
use Rattle.c_tree.specs.ExpressionGrammar.{UnaryExpr, Closed}
use Rattle.c_tree.specs.StatementGrammar.{ArgumentsAt}
use Rattle.c_tree.specs.TypeGrammar.{TypeNameAt}
use Rattle.c_decl.specs.declared.beginnings.Beginning.{Beginning}
use Rattle.c_decl.specs.declared.beginnings.Beginning.TheVariants as beginning
use Rattle.c_decl.specs.Sequences.{Then, Before, Ended, Given}

-- Expr ')' ';'.
abbrev pub ClosedEnd : List Token → List Token → Expr → Type 0
ClosedEnd = Then (Closed sign.ParenClose) (λ x. Ended (word.Sign sign.Semicolon) x)

-- The arguments and ';' of a call of f whose result goes to t, if to any.
abbrev pub CallAfter : Option (List ℕ) → List ℕ → List Token → List Token → Action → Type 0
CallAfter t f = Then ArgumentsAt (λ xs. Ended (word.Sign sign.Semicolon) (action.Call t f xs))

-- What stands after 'return'.
pub data ReturnAfter : List Token → List Token → Action → Type 0 where
  alone : {w v : List Token} {a : Action} → Ended (word.Sign sign.Semicolon) (action.Return None) w v a → ReturnAfter w v a
  value : {w v : List Token} {x : Expr} → Closed sign.Semicolon w v x → ReturnAfter w v (action.Return (Some x))

-- What stands after a beginning.
abbrev pub ActionAfter : Beginning → List Token → List Token → Action → Type 0
ActionAfter beginning.Empty = Ended (word.Sign sign.Semicolon) action.Empty
ActionAfter beginning.Return = ReturnAfter
ActionAfter beginning.Kfree = Then ClosedEnd (λ x. Given (action.Kfree x))
ActionAfter beginning.Zero = Then UnaryExpr (λ x. Before (word.Sign sign.ParenClose) (Ended (word.Sign sign.Semicolon) (action.Zero x)))
ActionAfter (beginning.Call f) = CallAfter None f
ActionAfter (beginning.CallTo t f) = CallAfter (Some t) f
ActionAfter (beginning.Kalloc t) = Then TypeNameAt (λ e. Before (word.Sign sign.Comma) (Then ClosedEnd (λ y. Given (action.Kalloc t e y))))
ActionAfter beginning.Place = Then UnaryExpr (λ x. Before (word.Sign sign.Assign) (Then (Closed sign.Semicolon) (λ y. Given (action.Assign x y))))
