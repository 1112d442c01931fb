use Rattle.c_decl.proofs.BeginningOf.{action_best}
use Rattle.c_decl.proofs.actions.action_at.Goals as goal

pub returns-clause-best : goal.returns-clause-best
returns-clause-best c = action_best _ c.beginning_at-beginning.result.1.now c.beginning_at-beginning.result.0 _ c.beginning_at-beginning.ensures.exact c.in_ok-found.ensures.best
