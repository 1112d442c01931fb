use Rattle.c_decl.proofs.LongestItem.{body_open, body_some}
use Rattle.c_decl.proofs.functions.body_after.Goals as goal

pub returns-in_default-clause-best : goal.returns-in_default-clause-best
returns-in_default-clause-best c = body_open c.args.head _ c.in_ok-locals.after_locals.now c.in_ok-body.closing.now c.in_ok-locals.locals c.in_ok-body.body c.in_ok-locals.ensures.best c.in_ok-body.ensures.best
    c.in_default.ensures.word

pub returns-clause-best : goal.returns-clause-best
returns-clause-best c = rw (c.in_ok-push.ensures.ok, c.in_ok-added.ensures, c.line_of-end.ensures)
    (body_some c.args.head _ c.in_ok-locals.after_locals.now c.in_ok-body.closing.now c.in-Some.rest.now c.in_ok-locals.locals c.in_ok-body.body c.in_ok-locals.ensures.best c.in_ok-body.ensures.best
    c.in-Some.ensures.word)
