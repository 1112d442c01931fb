use Rattle.c_decl.proofs.LongestItem.{item_struct, item_none, item_function, item_global}
use Rattle.c_decl.proofs.items.item_at.Goals as goal

pub returns-in-Some-clause-best : goal.returns-in-Some-clause-best
returns-in-Some-clause-best c = item_struct _ c.in-Some.opened.1.now c.line_of-line.result c.in-Some.opened.0 _ c.line_of-line.ensures c.in-Some.ensures.exact c.in_ok-found.ensures.best

pub returns-in_default-2-clause-best : goal.returns-in_default-2-clause-best
returns-in_default-2-clause-best c = item_none _ c.in_default.ensures.exact (rw c.in_default-2.is at c.in_ok-start.ensures.best)

pub returns-in-Some-after_sign-clause-best : goal.returns-in-Some-after_sign-clause-best
returns-in-Some-after_sign-clause-best c = item_function _ c.in-Some-2.after_start.now c.in-Some-after_sign.inside.now c.line_of-line.result c.in-Some-2.start _ c.line_of-line.ensures c.in_default.ensures.exact
    (rw c.in-Some-2.is at c.in_ok-start.ensures.best) c.in-Some-after_sign.ensures.word c.in_ok-found-2.ensures.best

pub returns-clause-best : goal.returns-clause-best
returns-clause-best c = item_global _ c.in-Some-2.after_start.now c.line_of-line.result c.in-Some-2.start _ c.line_of-line.ensures c.in_default.ensures.exact
    (rw c.in-Some-2.is at c.in_ok-start.ensures.best) c.in_default-after_sign.ensures.word c.global_after-found.ensures.best
