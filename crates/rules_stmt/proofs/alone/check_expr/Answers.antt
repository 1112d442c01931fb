use Rattle.std.proofs.Common.{rules}
use Rattle.deputy_rules.specs.Context.{Context}
use Rattle.deputy_rules.specs.Expressions.{expression}
use Rattle.deputy_rules.specs.Statements.{expression_alone}
use Rattle.check_numbering.specs.Building.{numbers_of}
use Rattle.check_numbering.proofs.AtLine.{line_derived, line_unnumbered, line_refused}
use Rattle.rules_stmt.proofs.alone.check_expr.Goals as goal

pub returns-in-Ok-number_checks : goal.returns-in-Ok-number_checks
unfolding expression_alone
returns-in-Ok-number_checks c =
    line_derived c.args.ctx.now c.args.ctx.now.line (λ (x : Context). expression x c.args.e.now) (numbers_of c.args.out.now) c.expression_at.new.own _ c.in-Ok.form (search rules) (search rules)

pub returns-in-Ok : goal.returns-in-Ok
unfolding expression_alone
returns-in-Ok c =
    line_unnumbered c.args.ctx.now c.args.ctx.now.line (λ (x : Context). expression x c.args.e.now) (numbers_of c.args.out.now) c.expression_at.new.own c.in-Ok.form c.in-Err-number_checks.refusal c.at_line.result (search rules) (search rules) (search rules)

pub returns : goal.returns
unfolding expression_alone
returns c =
    line_refused c.args.ctx.now c.args.ctx.now.line (λ (x : Context). expression x c.args.e.now) (numbers_of c.args.out.now) c.in-Err.refusal c.at_line-in-Err.result (search rules) (search rules)
