use Rattle.c_decl.proofs.LongestStart.{start_best}
use Rattle.c_decl.proofs.functions.start_at.Goals as goal

pub returns-clause-best : goal.returns-clause-best
returns-clause-best c = start_best _ c.static_at-is_static.result.1.now c.static_at-is_static.result.0 _ c.static_at-is_static.ensures.exact c.in_ok-found.ensures.best
