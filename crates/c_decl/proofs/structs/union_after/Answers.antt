use Rattle.c_decl.proofs.Sequences.{then_none, then_once, before_lacks, before_is, given_is}
use Rattle.c_decl.proofs.structs.union_after.Goals as goal

pub returns-in_default-clause-best : goal.returns-in_default-clause-best
returns-in_default-clause-best c = before_lacks c.in_default.ensures.word

pub returns-in_default-2-clause-best : goal.returns-in_default-2-clause-best
returns-in_default-2-clause-best c = before_is c.in-Some.ensures.word (then_none (rw c.in_default-2.is at c.in_ok-arms.ensures.best))

pub returns-in_default-named_end-clause-best : goal.returns-in_default-named_end-clause-best
returns-in_default-named_end-clause-best c = before_is c.in-Some.ensures.word (then_once (rw c.in-Some-2.is at c.in_ok-arms.ensures.best) (then_none c.in_default-named_end.ensures.best))

pub returns-clause-best : goal.returns-clause-best
returns-clause-best c = before_is c.in-Some.ensures.word (then_once (rw c.in-Some-2.is at c.in_ok-arms.ensures.best) (then_once c.in-Some-named_end.ensures.best given_is))
