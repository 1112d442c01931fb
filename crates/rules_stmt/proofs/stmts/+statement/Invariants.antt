use Rattle.std.proofs.Common.{◌≡◌, [], map, drop}
use Rattle.deputy_rules.specs.Checking.{in_turn}
use Rattle.deputy_rules.specs.Statements.{check_statement}
use Rattle.check_numbering.specs.Building.{numbers_of}
use Rattle.rules_stmt.proofs.stmts.+statement.Given as goal

abbrev pub invariant-check_each-loop-statement : goal.invariant-check_each-loop-statement
invariant-check_each-loop-statement l = in_turn (map (check_statement l.ctx l.home) (drop l.statement-index l.list)) l.done (numbers_of l.build)
    ≡ in_turn (map (check_statement l.fn.ctx l.fn.home) l.fn.list) [] (numbers_of l.fn.build)
