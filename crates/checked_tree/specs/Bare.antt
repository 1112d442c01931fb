-- Bare forms: an expression without the numbers of its checks. Two expressions are equal where their bare forms are.
use Rattle.std.specs.Prelude.{[]}
use Rattle.checked_tree.specs.declared.expressions.CheckedExpr.{CheckedExpr}
use Rattle.checked_tree.specs.declared.expressions.CheckedExpr.TheOpen as E
use Rattle.checked_tree.specs.declared.expressions.CheckedExpr.TheVariants as V
use Rattle.checked_tree.specs.declared.expressions.CheckedExpr.TheFolds.{fold-CheckedExpr}

-- one level, without its checks
abbrev pub bare_level : E.CheckedExpr-F CheckedExpr → CheckedExpr
bare_level (E.Number value scalar) = V.Number value scalar
bare_level E.Null = V.Null
bare_level (E.Local slot) = V.Local slot
bare_level (E.Block base) = V.Block base
bare_level (E.Through pointer checks) = V.Through pointer []
bare_level (E.Element pointer index size checks) = V.Element pointer index size []
bare_level (E.Field place offset checks) = V.Field place offset []
bare_level (E.Load scalar place) = V.Load scalar place
bare_level (E.AddressOf place) = V.AddressOf place
bare_level (E.Moved sum pointer by size checks) = V.Moved sum pointer by size []
bare_level (E.Unary op scalar of) = V.Unary op scalar of
bare_level (E.Binary op scalar left right checks) = V.Binary op scalar left right []
bare_level (E.Compare op scalar left right) = V.Compare op scalar left right
bare_level (E.Logical op left right) = V.Logical op left right

-- an expression without the numbers of its checks
unfoldable pub bare : CheckedExpr → CheckedExpr
bare e = fold-CheckedExpr CheckedExpr bare_level e
