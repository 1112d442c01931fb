-- Arguments that were read before others.
use Rattle.std.specs.Prelude.{List, ◌++◌, Option, None, Some}
use Rattle.c_tree.specs.declared.expressions.Expr.{Expr}
use Rattle.c_tree.specs.declared.words.Token.{Token}

-- The answer, with the arguments xs before its own.
abbrev pub behind : List Expr → Option (List Expr × List Token) → Option (List Expr × List Token)
behind xs None = None
behind xs (Some a) = Some (xs ++ a.0, a.1)
