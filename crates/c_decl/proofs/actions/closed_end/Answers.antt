use Rattle.c_decl.proofs.Sequences.{then_none, then_once, ended_lacks, ended_is}
use Rattle.c_decl.proofs.actions.closed_end.Goals as goal

pub returns-in_default-clause-best : goal.returns-in_default-clause-best
returns-in_default-clause-best c = then_none (rw c.in_default.is at c.in_ok-inner.ensures.best)

pub returns-in_default-after_sign-clause-best : goal.returns-in_default-after_sign-clause-best
returns-in_default-after_sign-clause-best c = then_once (rw c.in-Some.is at c.in_ok-inner.ensures.best) (ended_lacks c.in_default-after_sign.ensures.word)

pub returns-clause-best : goal.returns-clause-best
returns-clause-best c = then_once (rw c.in-Some.is at c.in_ok-inner.ensures.best) (ended_is c.in-Some-after_sign.ensures.word)
