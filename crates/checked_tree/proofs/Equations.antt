-- What a fold of a checked expression or statement is at each of its forms: the level at the fold of the parts.
use Rattle.std.proofs.Common.{◌≡◌, ℕ, ℤ, List, map, Option, ap, ◌∙◌}
use Rattle.checked_tree.specs.declared.shapes.Scalar.{Scalar}
use Rattle.checked_tree.specs.declared.expressions.Unary.{Unary}
use Rattle.checked_tree.specs.declared.expressions.Arithmetic.{Arithmetic}
use Rattle.checked_tree.specs.declared.expressions.Comparison.{Comparison}
use Rattle.checked_tree.specs.declared.expressions.Logic.{Logic}
use Rattle.checked_tree.specs.declared.expressions.PointerSum.{PointerSum}
use Rattle.checked_tree.specs.declared.expressions.CheckedExpr.{CheckedExpr, map-CheckedExpr}
use Rattle.checked_tree.specs.declared.expressions.CheckedExpr.TheOpen as E
use Rattle.checked_tree.specs.declared.expressions.CheckedExpr.TheVariants as V
use Rattle.checked_tree.specs.declared.expressions.CheckedExpr.TheFolds.{fold-CheckedExpr, fold_out-CheckedExpr}
use Rattle.checked_tree.specs.declared.kernel.KernelName.{KernelName}
use Rattle.checked_tree.specs.declared.statements.Argument.{Argument}
use Rattle.checked_tree.specs.declared.statements.PointerOperand.{PointerOperand}
use Rattle.checked_tree.specs.declared.statements.Target.{Target}
use Rattle.checked_tree.specs.declared.statements.CheckedStmt.{CheckedStmt, map-CheckedStmt}
use Rattle.checked_tree.specs.declared.statements.CheckedStmt.TheOpen as S
use Rattle.checked_tree.specs.declared.statements.CheckedStmt.TheVariants as T
use Rattle.checked_tree.specs.declared.statements.CheckedStmt.TheFolds.{fold-CheckedStmt, fold_out-CheckedStmt}

module _ (A : Type 0) (level : E.CheckedExpr-F A → A) where
  pub at-Number : (value : ℤ) (scalar : Scalar) → fold-CheckedExpr A level (V.Number value scalar) ≡ level (E.Number value scalar)
  at-Number value scalar =
      fold_out-CheckedExpr A level (V.Number value scalar) ∙ ap (λ l. level (map-CheckedExpr CheckedExpr A (fold-CheckedExpr A level) l)) (V.outs-Number value scalar)

  pub at-Null : fold-CheckedExpr A level V.Null ≡ level E.Null
  at-Null =
      fold_out-CheckedExpr A level V.Null ∙ ap (λ l. level (map-CheckedExpr CheckedExpr A (fold-CheckedExpr A level) l)) V.outs-Null

  pub at-Local : (slot : ℕ) → fold-CheckedExpr A level (V.Local slot) ≡ level (E.Local slot)
  at-Local slot =
      fold_out-CheckedExpr A level (V.Local slot) ∙ ap (λ l. level (map-CheckedExpr CheckedExpr A (fold-CheckedExpr A level) l)) (V.outs-Local slot)

  pub at-Block : (base : ℕ) → fold-CheckedExpr A level (V.Block base) ≡ level (E.Block base)
  at-Block base =
      fold_out-CheckedExpr A level (V.Block base) ∙ ap (λ l. level (map-CheckedExpr CheckedExpr A (fold-CheckedExpr A level) l)) (V.outs-Block base)

  pub at-Through : (pointer : CheckedExpr) (checks : List ℕ) → fold-CheckedExpr A level (V.Through pointer checks) ≡ level (E.Through (fold-CheckedExpr A level pointer) checks)
  at-Through pointer checks =
      fold_out-CheckedExpr A level (V.Through pointer checks) ∙ ap (λ l. level (map-CheckedExpr CheckedExpr A (fold-CheckedExpr A level) l)) (V.outs-Through pointer checks)

  pub at-Element : (pointer index : CheckedExpr) (size : ℕ) (checks : List ℕ) → fold-CheckedExpr A level (V.Element pointer index size checks) ≡ level (E.Element (fold-CheckedExpr A level pointer) (fold-CheckedExpr A level index) size checks)
  at-Element pointer index size checks =
      fold_out-CheckedExpr A level (V.Element pointer index size checks) ∙ ap (λ l. level (map-CheckedExpr CheckedExpr A (fold-CheckedExpr A level) l)) (V.outs-Element pointer index size checks)

  pub at-Field : (place : CheckedExpr) (offset : ℕ) (checks : List ℕ) → fold-CheckedExpr A level (V.Field place offset checks) ≡ level (E.Field (fold-CheckedExpr A level place) offset checks)
  at-Field place offset checks =
      fold_out-CheckedExpr A level (V.Field place offset checks) ∙ ap (λ l. level (map-CheckedExpr CheckedExpr A (fold-CheckedExpr A level) l)) (V.outs-Field place offset checks)

  pub at-Load : (scalar : Scalar) (place : CheckedExpr) → fold-CheckedExpr A level (V.Load scalar place) ≡ level (E.Load scalar (fold-CheckedExpr A level place))
  at-Load scalar place =
      fold_out-CheckedExpr A level (V.Load scalar place) ∙ ap (λ l. level (map-CheckedExpr CheckedExpr A (fold-CheckedExpr A level) l)) (V.outs-Load scalar place)

  pub at-AddressOf : (place : CheckedExpr) → fold-CheckedExpr A level (V.AddressOf place) ≡ level (E.AddressOf (fold-CheckedExpr A level place))
  at-AddressOf place =
      fold_out-CheckedExpr A level (V.AddressOf place) ∙ ap (λ l. level (map-CheckedExpr CheckedExpr A (fold-CheckedExpr A level) l)) (V.outs-AddressOf place)

  pub at-Moved : (sum : PointerSum) (pointer by : CheckedExpr) (size : ℕ) (checks : List ℕ) → fold-CheckedExpr A level (V.Moved sum pointer by size checks) ≡ level (E.Moved sum (fold-CheckedExpr A level pointer) (fold-CheckedExpr A level by) size checks)
  at-Moved sum pointer by size checks =
      fold_out-CheckedExpr A level (V.Moved sum pointer by size checks) ∙ ap (λ l. level (map-CheckedExpr CheckedExpr A (fold-CheckedExpr A level) l)) (V.outs-Moved sum pointer by size checks)

  pub at-Unary : (op : Unary) (scalar : Scalar) (of : CheckedExpr) → fold-CheckedExpr A level (V.Unary op scalar of) ≡ level (E.Unary op scalar (fold-CheckedExpr A level of))
  at-Unary op scalar of =
      fold_out-CheckedExpr A level (V.Unary op scalar of) ∙ ap (λ l. level (map-CheckedExpr CheckedExpr A (fold-CheckedExpr A level) l)) (V.outs-Unary op scalar of)

  pub at-Binary : (op : Arithmetic) (scalar : Scalar) (left right : CheckedExpr) (checks : List ℕ) → fold-CheckedExpr A level (V.Binary op scalar left right checks) ≡ level (E.Binary op scalar (fold-CheckedExpr A level left) (fold-CheckedExpr A level right) checks)
  at-Binary op scalar left right checks =
      fold_out-CheckedExpr A level (V.Binary op scalar left right checks) ∙ ap (λ l. level (map-CheckedExpr CheckedExpr A (fold-CheckedExpr A level) l)) (V.outs-Binary op scalar left right checks)

  pub at-Compare : (op : Comparison) (scalar : Scalar) (left right : CheckedExpr) → fold-CheckedExpr A level (V.Compare op scalar left right) ≡ level (E.Compare op scalar (fold-CheckedExpr A level left) (fold-CheckedExpr A level right))
  at-Compare op scalar left right =
      fold_out-CheckedExpr A level (V.Compare op scalar left right) ∙ ap (λ l. level (map-CheckedExpr CheckedExpr A (fold-CheckedExpr A level) l)) (V.outs-Compare op scalar left right)

  pub at-Logical : (op : Logic) (left right : CheckedExpr) → fold-CheckedExpr A level (V.Logical op left right) ≡ level (E.Logical op (fold-CheckedExpr A level left) (fold-CheckedExpr A level right))
  at-Logical op left right =
      fold_out-CheckedExpr A level (V.Logical op left right) ∙ ap (λ l. level (map-CheckedExpr CheckedExpr A (fold-CheckedExpr A level) l)) (V.outs-Logical op left right)

-- all of them, for `simp`
pub ruleset at_forms = (at-Number, at-Null, at-Local, at-Block, at-Through, at-Element, at-Field, at-Load, at-AddressOf, at-Moved, at-Unary, at-Binary, at-Compare, at-Logical)

-- an expression seen by its form, for `simp`
pub ruleset at_expressions = (V.outs-Number, V.outs-Null, V.outs-Local, V.outs-Block, V.outs-Through, V.outs-Element, V.outs-Field, V.outs-Load, V.outs-AddressOf, V.outs-Moved, V.outs-Unary, V.outs-Binary, V.outs-Compare, V.outs-Logical)

module _ (A : Type 0) (level : S.CheckedStmt-F A → A) where
  pub at-Empty : (line : ℕ) → fold-CheckedStmt A level (T.Empty line) ≡ level (S.Empty line)
  at-Empty line =
      fold_out-CheckedStmt A level (T.Empty line) ∙ ap (λ l. level (map-CheckedStmt CheckedStmt A (fold-CheckedStmt A level) l)) (T.outs-Empty line)

  pub at-Assign : (line slot : ℕ) (scalar : Scalar) (value : CheckedExpr) (checks : List ℕ) → fold-CheckedStmt A level (T.Assign line slot scalar value checks) ≡ level (S.Assign line slot scalar value checks)
  at-Assign line slot scalar value checks =
      fold_out-CheckedStmt A level (T.Assign line slot scalar value checks) ∙ ap (λ l. level (map-CheckedStmt CheckedStmt A (fold-CheckedStmt A level) l)) (T.outs-Assign line slot scalar value checks)

  pub at-AssignAutomatic : (line slot hidden : ℕ) (value : PointerOperand) (checks : List ℕ) → fold-CheckedStmt A level (T.AssignAutomatic line slot hidden value checks) ≡ level (S.AssignAutomatic line slot hidden value checks)
  at-AssignAutomatic line slot hidden value checks =
      fold_out-CheckedStmt A level (T.AssignAutomatic line slot hidden value checks) ∙ ap (λ l. level (map-CheckedStmt CheckedStmt A (fold-CheckedStmt A level) l)) (T.outs-AssignAutomatic line slot hidden value checks)

  pub at-Store : (line : ℕ) (scalar : Scalar) (place value : CheckedExpr) (checks : List ℕ) → fold-CheckedStmt A level (T.Store line scalar place value checks) ≡ level (S.Store line scalar place value checks)
  at-Store line scalar place value checks =
      fold_out-CheckedStmt A level (T.Store line scalar place value checks) ∙ ap (λ l. level (map-CheckedStmt CheckedStmt A (fold-CheckedStmt A level) l)) (T.outs-Store line scalar place value checks)

  pub at-Zero : (line : ℕ) (place : CheckedExpr) (size : ℕ) → fold-CheckedStmt A level (T.Zero line place size) ≡ level (S.Zero line place size)
  at-Zero line place size =
      fold_out-CheckedStmt A level (T.Zero line place size) ∙ ap (λ l. level (map-CheckedStmt CheckedStmt A (fold-CheckedStmt A level) l)) (T.outs-Zero line place size)

  pub at-Call : (line : ℕ) (target : Option Target) (function : ℕ) (values : List Argument) (checks : List ℕ) → fold-CheckedStmt A level (T.Call line target function values checks) ≡ level (S.Call line target function values checks)
  at-Call line target function values checks =
      fold_out-CheckedStmt A level (T.Call line target function values checks) ∙ ap (λ l. level (map-CheckedStmt CheckedStmt A (fold-CheckedStmt A level) l)) (T.outs-Call line target function values checks)

  pub at-Kernel : (line : ℕ) (target : Option Target) (name : KernelName) (values : List Argument) (pointer : Option PointerOperand) (function elem size : ℕ) → fold-CheckedStmt A level (T.Kernel line target name values pointer function elem size) ≡ level (S.Kernel line target name values pointer function elem size)
  at-Kernel line target name values pointer function elem size =
      fold_out-CheckedStmt A level (T.Kernel line target name values pointer function elem size) ∙ ap (λ l. level (map-CheckedStmt CheckedStmt A (fold-CheckedStmt A level) l)) (T.outs-Kernel line target name values pointer function elem size)

  pub at-Return : (line : ℕ) (value : Option Argument) (checks : List ℕ) → fold-CheckedStmt A level (T.Return line value checks) ≡ level (S.Return line value checks)
  at-Return line value checks =
      fold_out-CheckedStmt A level (T.Return line value checks) ∙ ap (λ l. level (map-CheckedStmt CheckedStmt A (fold-CheckedStmt A level) l)) (T.outs-Return line value checks)

  pub at-If : (line : ℕ) (test : CheckedExpr) (first second : List CheckedStmt) → fold-CheckedStmt A level (T.If line test first second) ≡ level (S.If line test (map (fold-CheckedStmt A level) first) (map (fold-CheckedStmt A level) second))
  at-If line test first second =
      fold_out-CheckedStmt A level (T.If line test first second) ∙ ap (λ l. level (map-CheckedStmt CheckedStmt A (fold-CheckedStmt A level) l)) (T.outs-If line test first second)

  pub at-While : (line : ℕ) (test : CheckedExpr) (body : List CheckedStmt) → fold-CheckedStmt A level (T.While line test body) ≡ level (S.While line test (map (fold-CheckedStmt A level) body))
  at-While line test body =
      fold_out-CheckedStmt A level (T.While line test body) ∙ ap (λ l. level (map-CheckedStmt CheckedStmt A (fold-CheckedStmt A level) l)) (T.outs-While line test body)

-- all of them, for `simp`
pub ruleset at_parts = (at-Empty, at-Assign, at-AssignAutomatic, at-Store, at-Zero, at-Call, at-Kernel, at-Return, at-If, at-While)

-- a statement seen by its form, for `simp`
pub ruleset at_statements = (T.outs-Empty, T.outs-Assign, T.outs-AssignAutomatic, T.outs-Store, T.outs-Zero, T.outs-Call, T.outs-Kernel, T.outs-Return, T.outs-If, T.outs-While)
