-- In a short unit a statement or a condition is refused at its line only where no rule derives it.
use Rattle.std.proofs.Common.{◌≡◌, ◌≢◌, ℕ, List, [], Option, Some, None, Err, refl}
use Rattle.c_tree.specs.declared.expressions.Expr.{Expr}
use Rattle.c_tree.specs.declared.items.Function.{Function}
use Rattle.c_tree.specs.declared.items.Unit.{Unit as TextUnit}
use Rattle.c_tree.specs.declared.statements.Simple.{Simple}
use Rattle.c_tree.specs.Short.{IsShortExpr}
use Rattle.deputy_rules.specs.declared.asked.Asked.{Asked}
use Rattle.deputy_rules.specs.declared.signature.Returned.{Returned}
use Rattle.deputy_rules.specs.Checking.{Fault}
use Rattle.deputy_rules.specs.Context.{Context}
use Rattle.deputy_rules.specs.Functions.{context_of}
use Rattle.deputy_rules.specs.Numbering.{Numbered, numbered}
use Rattle.deputy_rules.specs.Statements.{act, controlling, statement_context, with_numbers, numbered_at, simple, condition}
use Rattle.deputy_types.specs.Table.{Table}
use Rattle.light_checks.specs.ShortActions.{HasShortParts}
use Rattle.light_checks.specs.ShortUnits.{IsFunctionOf, home_of}
use Rattle.light_checks.specs.Within.{IsContext, IsHome}
use Rattle.light_checks.proofs.Derivations.{condition_numbers, statement_numbers}
use Rattle.light_checks.proofs.ShortUnits.{context_within, home_within}

-- what is derived and has numbers is no fault
pub none_refused : {A : Type 0} (line : ℕ) (b : Numbered) (o : Option (A × List Asked)) (e : Fault) → ((a : A) (asked : List Asked) → o ≡ Some (a, asked) → numbered asked b ≢ None)
    → numbered_at line b o ≡ Err e → o ≡ None
none_refused line b None e has h = refl
none_refused line b (Some r) e has h = absurd (by (numbered r.1 b) refl h)
  where
    by : (n : Option Numbered) → numbered r.1 b ≡ n → with_numbers line r.0 n ≡ Err e → ⊥
    by None k h = has r.0 r.1 refl k
    by (Some m) k h = absurd cc

-- the context at a line is that of the function
pub at_line_within : (ctx : Context) (line : ℕ) (b : Numbered) → IsContext ctx → IsContext (statement_context ctx line b)
at_line_within ctx line b is = record { table = is.table; slots = is.slots }

module _ (u : TextUnit) (t : Table) (f : Function) (r : Returned) (is : IsFunctionOf u t f r) where
  pub within : IsContext (context_of t f)
  within = context_within u t f is.short is.table is.function is.stands

  at_home : IsHome (home_of u t r)
  at_home = home_within u t f r is.short is.table is.function is.result

  pub statement_refused : (s : Simple) (b : Numbered) (e : Fault) → HasShortParts s.action → simple (context_of t f) (home_of u t r) s b ≡ Err e
      → act (statement_context (context_of t f) s.line b) (home_of u t r) s.action [] ≡ None
  unfolding simple
  statement_refused s b e short h =
      let ctx = statement_context (context_of t f) s.line b in
      none_refused s.line b (act ctx (home_of u t r) s.action []) e
      (λ a asked found. statement_numbers ctx (home_of u t r) s.action a asked b (at_line_within (context_of t f) s.line b within) at_home short found) h

  pub condition_refused : (line : ℕ) (x : Expr) (b : Numbered) (e : Fault) → IsShortExpr x → condition (context_of t f) line x b ≡ Err e
      → controlling (statement_context (context_of t f) line b) x [] ≡ None
  unfolding condition
  condition_refused line x b e short h =
      let ctx = statement_context (context_of t f) line b in
      none_refused line b (controlling ctx x []) e
      (λ a asked found. condition_numbers ctx x a asked b (at_line_within (context_of t f) line b within) short found) h
