use Rattle.std.proofs.Common.{◌≤◌, ◌+◌, ◌*◌, ◌++◌, List, Some, length}
use Rattle.c_tree.specs.declared.statements.Stmt.{Stmt}
use Rattle.c_tree.specs.declared.words.Token.{Token}
use Rattle.c_tree.specs.Reading.{Best}
use Rattle.c_tree.specs.StatementGrammar.{StmtsAt}
use Rattle.c_expr.specs.Classes.{At}
use Rattle.c_decl.specs.Classes.{is_in_statements}
use Rattle.c_decl.proofs.statements.+statement.Given as goal

abbrev pub decreases-statements_at : goal.decreases-statements_at
decreases-statements_at l = length l.words.now * 2 + 1

abbrev pub decreases-statement_at : goal.decreases-statement_at
decreases-statement_at l = length l.words.now * 2

abbrev pub decreases-if_after : goal.decreases-if_after
decreases-if_after l = length l.words.now * 2

abbrev pub decreases-else_at : goal.decreases-else_at
decreases-else_at l = length l.words.now * 2

abbrev pub decreases-while_after : goal.decreases-while_after
decreases-while_after l = length l.words.now * 2

abbrev pub decreases-body_at : goal.decreases-body_at
decreases-body_at l = length l.words.now * 2

abbrev pub invariant-statements_at-loop-statements : goal.invariant-statements_at-loop-statements
invariant-statements_at-loop-statements l = record {
  shorter : length l.rest ≤ length l.fn.words;
  carries : (a : List Stmt × List Token) → length a.1 ≤ length l.rest → Best {X = List Stmt} (StmtsAt l.rest) (At is_in_statements) (Some a)
      → Best {X = List Stmt} (StmtsAt l.fn.words) (At is_in_statements) (Some (l.statements ++ a.0, a.1));
}

abbrev pub decreases-statements_at-loop-statements : goal.decreases-statements_at-loop-statements
decreases-statements_at-loop-statements l = length l.rest
