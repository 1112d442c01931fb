use Rattle.c_decl.proofs.LongestAction.{return_alone, return_none, return_value}
use Rattle.c_decl.proofs.actions.returned.Goals as goal

pub returns-in-Some-clause-best : goal.returns-in-Some-clause-best
returns-in-Some-clause-best c = return_alone _ c.in-Some.rest.now c.in-Some.ensures.word

pub returns-in_default-2-clause-best : goal.returns-in_default-2-clause-best
returns-in_default-2-clause-best c = return_none _ c.in_default.ensures.word (rw c.in_default-2.is at c.in_ok-value.ensures.best)

pub returns-clause-best : goal.returns-clause-best
returns-clause-best c = return_value _ c.in-Some-2.rest.now c.in-Some-2.value c.in_default.ensures.word (rw c.in-Some-2.is at c.in_ok-value.ensures.best)
