use Rattle.c_decl.proofs.Sequences.{then_none}
use Rattle.c_decl.proofs.LongestItem.{function_prototype, function_open, function_body}
use Rattle.c_decl.proofs.functions.function_after.Goals as goal

pub returns-in_default-clause-best : goal.returns-in_default-clause-best
returns-in_default-clause-best c = then_none (rw c.in_default.is at c.in_ok-params.ensures.best)

pub returns-in-Some-after_sign-clause-best : goal.returns-in-Some-after_sign-clause-best
returns-in-Some-after_sign-clause-best c = function_prototype c.args.line c.args.start _ c.in-Some.after_head.now c.in-Some-after_sign.rest.now c.in-Some.params c.head_of-head.result c.head_of-head.ensures
    (rw c.in-Some.is at c.in_ok-params.ensures.best) c.in-Some-after_sign.ensures.word

pub returns-in_default-after_sign-2-clause-best : goal.returns-in_default-after_sign-2-clause-best
returns-in_default-after_sign-2-clause-best c = function_open c.args.line c.args.start _ c.in-Some.after_head.now c.in-Some.params (rw c.in-Some.is at c.in_ok-params.ensures.best)
    c.in_default-after_sign.ensures.word c.in_default-after_sign-2.ensures.word

pub returns-clause-best : goal.returns-clause-best
returns-clause-best c = function_body c.args.line c.args.start _ c.in-Some.after_head.now c.in-Some-after_sign-2.inside.now c.in-Some.params c.head_of-head.result _ c.head_of-head.ensures
    (rw c.in-Some.is at c.in_ok-params.ensures.best) c.in-Some-after_sign-2.ensures.word c.in_ok-found.ensures.best
