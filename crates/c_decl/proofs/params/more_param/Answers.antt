use Rattle.c_decl.proofs.LongestParam.{more_none, more_is}
use Rattle.c_decl.proofs.params.more_param.Goals as goal

pub returns-in_default-clause-best : goal.returns-in_default-clause-best
returns-in_default-clause-best c = more_none _ c.in_default.ensures.word

pub returns-clause-best : goal.returns-clause-best
returns-clause-best c = more_is _ c.in-Some.after_comma.now _ c.in-Some.ensures.word c.in_ok-found.ensures.best
