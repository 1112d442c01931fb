use Rattle.c_decl.proofs.LongestAction.{arguments_none, arguments_some}
use Rattle.c_decl.proofs.arguments.arguments_at.Goals as goal

pub returns-in-Some-clause-best : goal.returns-in-Some-clause-best
returns-in-Some-clause-best c = rw c.new.ensures (arguments_none _ c.in-Some.rest.now c.in-Some.ensures.word)

pub returns-clause-best : goal.returns-clause-best
returns-clause-best c = arguments_some _ _ c.in_default.ensures.word c.in_ok-found.ensures.best
