use Rattle.c_decl.proofs.LongestParam.{param_none, param_some}
use Rattle.c_decl.proofs.params.param_at.Goals as goal

pub returns-in_default-clause-best : goal.returns-in_default-clause-best
returns-in_default-clause-best c = param_none _ (rw c.in_default.is at c.in_ok-typed.ensures.best)

pub returns-clause-best : goal.returns-clause-best
returns-clause-best c = rw c.line_of.ensures (param_some _ c.in-Some.rest.now c.in-Some.typed (rw c.in-Some.is at c.in_ok-typed.ensures.best))
