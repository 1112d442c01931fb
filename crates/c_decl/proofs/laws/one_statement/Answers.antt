use Rattle.c_decl.proofs.OneStatement.{body_only, statement_only}
use Rattle.c_decl.proofs.laws.one_statement.Goals as goal

pub returns-clause-bodies : goal.returns-clause-bodies
returns-clause-bodies c = λ w v u x y d e. body_only d e

pub returns-clause-statements : goal.returns-clause-statements
returns-clause-statements c = λ w v u x y d e n m. statement_only d e n m
