use Rattle.c_decl.proofs.Sequences.{before_lacks, before_is}
use Rattle.c_decl.proofs.statements.test_after.Goals as goal

pub returns-in_default-clause-best : goal.returns-in_default-clause-best
returns-in_default-clause-best c = before_lacks c.in_default.ensures.word

pub returns-clause-best : goal.returns-clause-best
returns-clause-best c = before_is c.in-Some.ensures.word c.in_ok-found.ensures.best
