use Rattle.c_decl.proofs.LongestParam.{params_nothing, params_void_open, params_void, params_none, params_open, params_some}
use Rattle.c_decl.proofs.params.params_at.Goals as goal

pub returns-in-Some-clause-best : goal.returns-in-Some-clause-best
returns-in-Some-clause-best c = rw c.new.ensures (params_nothing _ c.in-Some.rest.now c.in-Some.ensures.word)

pub returns-in_default-after_sign-clause-best : goal.returns-in_default-after_sign-clause-best
returns-in_default-after_sign-clause-best c = params_void_open _ c.in-Some-after_keyword.after_void.now c.in-Some-after_keyword.ensures.word c.in_default-after_sign.ensures.word

pub returns-in-Some-after_keyword-clause-best : goal.returns-in-Some-after_keyword-clause-best
returns-in-Some-after_keyword-clause-best c = rw c.new-in-Some-after_keyword.ensures (params_void _ c.in-Some-after_keyword.after_void.now c.in-Some-after_sign.rest.now c.in-Some-after_keyword.ensures.word c.in-Some-after_sign.ensures.word)

pub returns-in_default-2-clause-best : goal.returns-in_default-2-clause-best
returns-in_default-2-clause-best c = params_none _ c.in_default.ensures.word c.in_default-after_keyword.ensures.word (rw c.in_default-2.is at c.in_ok-params.ensures.best)

pub returns-in_default-after_sign-2-clause-best : goal.returns-in_default-after_sign-2-clause-best
returns-in_default-after_sign-2-clause-best c = params_open _ c.in-Some-2.after_params.now c.in-Some-2.params c.in_default.ensures.word c.in_default-after_keyword.ensures.word (rw c.in-Some-2.is at c.in_ok-params.ensures.best)
    c.in_default-after_sign-2.ensures.word

pub returns-clause-best : goal.returns-clause-best
returns-clause-best c = params_some _ c.in-Some-2.after_params.now c.in-Some-after_sign-2.rest.now c.in-Some-2.params c.in_default.ensures.word c.in_default-after_keyword.ensures.word
    (rw c.in-Some-2.is at c.in_ok-params.ensures.best) c.in-Some-after_sign-2.ensures.word
