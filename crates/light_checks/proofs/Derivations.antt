-- What is derived from short texts has numbers.
use Rattle.std.proofs.Common.{◌≡◌, ◌≢◌, List, [], Some, None}
use Rattle.c_tree.specs.declared.expressions.Expr.{Expr}
use Rattle.c_tree.specs.declared.statements.Action.{Action}
use Rattle.c_tree.specs.Short.{IsShortExpr}
use Rattle.checked_tree.specs.declared.expressions.CheckedExpr.{CheckedExpr}
use Rattle.checked_tree.specs.declared.statements.CheckedStmt.{CheckedStmt}
use Rattle.deputy_rules.specs.declared.asked.Asked.{Asked}
use Rattle.deputy_rules.specs.declared.derived.Derived.{Derived}
use Rattle.deputy_rules.specs.Context.{Context}
use Rattle.deputy_rules.specs.Expressions.{derive}
use Rattle.deputy_rules.specs.Numbering.{Numbered, numbered}
use Rattle.deputy_rules.specs.Statements.{Home, act, controlling}
use Rattle.light_checks.specs.ShortActions.{HasShortParts}
use Rattle.light_checks.specs.Weights.{IsDerived}
use Rattle.light_checks.specs.Within.{IsContext, IsHome}
use Rattle.light_checks.proofs.AssignmentRules.{derive_short}
use Rattle.light_checks.proofs.Ensuring.{Any}
use Rattle.light_checks.proofs.Numbered.{numbers_of}
use Rattle.light_checks.proofs.ShortWords.{short_readable}
use Rattle.light_checks.proofs.StatementRules.{controlling_is, act_is, all_light}

pub expression_numbers : (ctx : Context) (e : Expr) (d : Derived) (asked : List Asked) (before : Numbered) → IsContext ctx → IsShortExpr e → derive ctx e [] ≡ Some (d, asked)
    → numbered asked before ≢ None
expression_numbers ctx e d asked before is short found = numbers_of asked (all_light (derive ctx e) (IsDerived 1000) d asked (derive_short ctx is e (short_readable e short)) found) before

pub condition_numbers : (ctx : Context) (e : Expr) (x : CheckedExpr) (asked : List Asked) (before : Numbered) → IsContext ctx → IsShortExpr e → controlling ctx e [] ≡ Some (x, asked)
    → numbered asked before ≢ None
condition_numbers ctx e x asked before is short found = numbers_of asked (all_light (controlling ctx e) Any x asked (controlling_is ctx is e short) found) before

pub statement_numbers : (ctx : Context) (home : Home) (a : Action) (s : CheckedStmt) (asked : List Asked) (before : Numbered) → IsContext ctx → IsHome home → HasShortParts a
    → act ctx home a [] ≡ Some (s, asked) → numbered asked before ≢ None
statement_numbers ctx home a s asked before is at short found = numbers_of asked (all_light (act ctx home a) Any s asked (act_is ctx is home a at short) found) before
