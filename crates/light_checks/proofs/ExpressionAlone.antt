-- An expression that is checked by itself is refused only where no rule derives it.
use Rattle.std.proofs.Common.{◌≡◌, List, [], Option, None, Err, sym, subst}
use Rattle.c_tree.specs.declared.expressions.Expr.{Expr}
use Rattle.c_tree.specs.Short.{IsShortExpr}
use Rattle.checked_tree.specs.declared.shapes.Shape.{Shape}
use Rattle.deputy_rules.specs.Checking.{Fault, NoRule}
use Rattle.deputy_rules.specs.Context.{Context}
use Rattle.deputy_rules.specs.Expressions.{expression}
use Rattle.deputy_rules.specs.Numbering.{Numbered}
use Rattle.deputy_rules.specs.Statements.{expression_alone, statement_context}
use Rattle.light_checks.specs.Alone.{IsInFunction}
use Rattle.light_checks.specs.Within.{AreShapes, IsContext}
use Rattle.light_checks.proofs.Bodies.{line_fault}
use Rattle.light_checks.proofs.Ensuring.{Any}
use Rattle.light_checks.proofs.Numbered.{numbers_of}
use Rattle.light_checks.proofs.Refusals.{none_refused, at_line_within}
use Rattle.light_checks.proofs.ShortUnits.{context_within}
use Rattle.light_checks.proofs.StatementRules.{expression_is, all_light}

module _ (ctx : Context) (is : IsInFunction ctx) where
  within : IsContext ctx
  within =
      let w = context_within is.unit ctx.table is.function is.short is.table is.holds is.stands in
      record { table = w.table; slots = subst (λ (l : List (Option Shape)). AreShapes l) (sym is.slots) w.slots }

  pub alone_refused : (e : Expr) (b : Numbered) (fault : Fault) → IsShortExpr e → expression_alone ctx e b ≡ Err fault
      → (fault ≡ NoRule ctx.line) × (expression (statement_context ctx ctx.line b) e [] ≡ None)
  unfolding expression_alone
  alone_refused e b fault short h =
      let here = statement_context ctx ctx.line b in
      let inside = at_line_within ctx ctx.line b within in (
        line_fault ctx.line b (expression here e []) fault h,
        none_refused ctx.line b (expression here e []) fault
            (λ x asked found. numbers_of asked (all_light (expression here e) Any x asked (expression_is here inside e short) found) b) h,
      )
