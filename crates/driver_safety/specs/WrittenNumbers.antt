-- The numbers and characters that an expression is written with, as C's words are: a number has a value of 32 bits (C99 6.4.4.1, where
-- `long` has as many),
-- a character one of 8.
use Rattle.std.specs.Prelude.{◌^◌, nat_lt, Bool, true, ◌&&◌}
use Rattle.c_tree.specs.declared.expressions.Expr.{Expr}
use Rattle.c_tree.specs.declared.expressions.Expr.TheOpen as E
use Rattle.c_tree.specs.declared.expressions.Expr.TheFolds.{fold-Expr}

-- one form, of whose parts each is known
abbrev pub words_level : E.Expr-F Bool → Bool
words_level (E.Number n) = nat_lt n.value (2 ^ 32)
words_level (E.Character c) = nat_lt c 256
words_level (E.String bytes k) = true
words_level (E.Name x) = true
words_level (E.Grouped a) = a
words_level E.Null = true
words_level (E.Unary o a) = a
words_level (E.Binary o a b) = a && b
words_level (E.Cast t a) = a
words_level (E.Sizeof t) = true
words_level (E.Field a f) = a
words_level (E.Arrow a f) = a
words_level (E.Index a b) = a && b

unfoldable pub has_words : Expr → Bool
has_words e = fold-Expr Bool words_level e
