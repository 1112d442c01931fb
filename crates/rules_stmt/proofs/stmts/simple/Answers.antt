use Rattle.std.proofs.Common.{rules}
use Rattle.deputy_rules.specs.Context.{Context}
use Rattle.deputy_rules.specs.Statements.{simple, act}
use Rattle.check_numbering.specs.Building.{numbers_of}
use Rattle.check_numbering.proofs.AtLine.{line_derived, line_unnumbered, line_refused}
use Rattle.rules_stmt.proofs.stmts.simple.Goals as goal

pub returns-in-Ok-number_checks : goal.returns-in-Ok-number_checks
unfolding simple
returns-in-Ok-number_checks c =
    line_derived c.args.ctx.now c.args.s.now.line (λ (x : Context). act x c.args.home.now c.args.s.now.action) (numbers_of c.args.build.now) c.act_at.new.own _ c.in-Ok.stmt (search rules) (search rules)

pub returns-in-Ok : goal.returns-in-Ok
unfolding simple
returns-in-Ok c =
    line_unnumbered c.args.ctx.now c.args.s.now.line (λ (x : Context). act x c.args.home.now c.args.s.now.action) (numbers_of c.args.build.now) c.act_at.new.own c.in-Ok.stmt c.in-Err-number_checks.refusal c.at_line.result
    (search rules) (search rules) (search rules)

pub returns : goal.returns
unfolding simple
returns c =
    line_refused c.args.ctx.now c.args.s.now.line (λ (x : Context). act x c.args.home.now c.args.s.now.action) (numbers_of c.args.build.now) c.in-Err.refusal c.at_line-in-Err.result (search rules) (search rules)
