use Rattle.std.proofs.Common.{None, Some}
use Rattle.c_expr.proofs.LongestBase.{base_is}
use Rattle.c_decl.proofs.LongestStart.{result_void, result_none, result_base}
use Rattle.c_decl.proofs.functions.result_at.Goals as goal

pub returns-in-Some-clause-best : goal.returns-in-Some-clause-best
returns-in-Some-clause-best c = result_void _ c.in-Some.rest.now c.in-Some.ensures.word

pub returns-in_default-base_at-clause-best : goal.returns-in_default-base_at-clause-best
returns-in_default-base_at-clause-best c = result_none _ c.in_default.ensures.word (base_is _ None c.in_default-base_at.ensures.exact)

pub returns-clause-best : goal.returns-clause-best
returns-clause-best c = result_base _ c.in-Some-base_at.rest.now c.in-Some-base_at.base c.in_default.ensures.word (base_is _ (Some (c.in-Some-base_at.base, c.in-Some-base_at.rest.now)) c.in-Some-base_at.ensures.exact)
