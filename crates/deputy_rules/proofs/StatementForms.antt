-- What an expression derives at the forms that the examples use.
use Rattle.std.proofs.Common.{◌≡◌, ℕ, List, Some, sym, ap, ◌∙◌}
use Rattle.c_tree.specs.declared.expressions.Expr.{Expr}
use Rattle.c_tree.specs.declared.expressions.Expr.TheOpen as E
use Rattle.c_tree.specs.declared.expressions.Expr.TheFolds.{fold-roll-Expr}
use Rattle.c_tree.specs.declared.expressions.Expr.TheVariants as X
use Rattle.c_tree.specs.declared.types.Number.{Number}
use Rattle.deputy_rules.specs.declared.asked.Asked.{Asked}
use Rattle.deputy_rules.specs.declared.derived.Derived.{Derived}
use Rattle.deputy_rules.specs.Context.{Context}
use Rattle.deputy_rules.specs.Deriving.{Deriving, ◌>>=◌, lift}
use Rattle.deputy_rules.specs.Expressions.{level, derive}
use Rattle.deputy_rules.specs.Operators.{number}
use Rattle.deputy_rules.specs.Places.{named, dotted}

module _ (ctx : Context) where
  pub at_number : (n : Number) (s : List Asked) → derive ctx (X.Number n) s ≡ Some (number n, s)
  unfolding derive
  at_number n s = ap (λ (p : Deriving Derived). p s) (ap (derive ctx) (sym (X.rolls-Number n)) ∙ fold-roll-Expr (Deriving Derived) (level ctx) (E.Number n))

  pub at_name : (x : List ℕ) (s : List Asked) → derive ctx (X.Name x) s ≡ lift (named ctx x) s
  unfolding derive
  at_name x s = ap (λ (p : Deriving Derived). p s) (ap (derive ctx) (sym (X.rolls-Name x)) ∙ fold-roll-Expr (Deriving Derived) (level ctx) (E.Name x))

  pub at_field : (a : Expr) (f : List ℕ) (s : List Asked) → derive ctx (X.Field a f) s ≡ (derive ctx a >>= λ x. dotted ctx x f) s
  unfolding derive
  at_field a f s = ap (λ (p : Deriving Derived). p s) (ap (derive ctx) (sym (X.rolls-Field a f)) ∙ fold-roll-Expr (Deriving Derived) (level ctx) (E.Field a f))
