use Rattle.c_decl.proofs.LongestAction.{simple_none, simple_some}
use Rattle.c_decl.proofs.actions.simple_at.Goals as goal

pub returns-in_default-clause-best : goal.returns-in_default-clause-best
returns-in_default-clause-best c = simple_none _ (rw c.in_default.is at c.in_ok-action.ensures.best)

pub returns-clause-best : goal.returns-clause-best
returns-clause-best c = rw c.line_of.ensures (simple_some _ c.in-Some.rest.now c.in-Some.action (rw c.in-Some.is at c.in_ok-action.ensures.best))
