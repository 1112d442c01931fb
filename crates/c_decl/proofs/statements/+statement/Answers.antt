use Rattle.std.proofs.Common.{[], ◌∷◌, append_assoc, append-nil, le_refl, arith}
use Rattle.c_decl.proofs.LongestStatement.{else_none, else_stuck, else_some, if_untested, if_empty, if_some, statement_of_if, statement_of_while, statement_none, statement_simple, body_none, body_single, body_open, body_block, statements_none, statements_on}
use Rattle.c_decl.proofs.Sequences.{then_none, then_once, given_is}
use Rattle.c_decl.proofs.statements.+statement.Goals as goal

pub body_at-returns-in_default-2-clause-best : goal.body_at-returns-in_default-2-clause-best
body_at-returns-in_default-2-clause-best t c = body_none _ c.in_default.ensures.word (rw c.in_default-2.is at c.in_ok-simple.ensures.best)

pub body_at-returns-in_default-clause-best : goal.body_at-returns-in_default-clause-best
body_at-returns-in_default-clause-best t c = body_single _ c.in-Some-2.rest.now c.in-Some-2.simple c.in_default.ensures.word (rw c.in-Some-2.is at c.in_ok-simple.ensures.best)

pub body_at-returns-in_default-after_sign-clause-best : goal.body_at-returns-in_default-after_sign-clause-best
body_at-returns-in_default-after_sign-clause-best t c = body_open _ c.in-Some.inside.now c.in_ok-statements.after.now c.in_ok-statements.statements c.in-Some.ensures.word c.in_ok-statements.ensures.best c.in_default-after_sign.ensures.word

pub body_at-returns-clause-best : goal.body_at-returns-clause-best
body_at-returns-clause-best t c = body_block _ c.in-Some.inside.now c.in_ok-statements.after.now c.in-Some-after_sign.rest.now c.in_ok-statements.statements c.in-Some.ensures.word c.in_ok-statements.ensures.best c.in-Some-after_sign.ensures.word

pub else_at-returns-in_default-clause-best : goal.else_at-returns-in_default-clause-best
else_at-returns-in_default-clause-best t c = else_none _ c.in_default.ensures.word

pub else_at-returns-in-Some-2-clause-best : goal.else_at-returns-in-Some-2-clause-best
else_at-returns-in-Some-2-clause-best t c = let shorter = rw c.in-Some-2.is at c.in_ok-body.ensures.shorter in let next = c.in-Some.ensures.shorter in
    else_some _ c.in-Some.after_else.now c.in-Some-2.rest.now c.in-Some-2.body c.in-Some.ensures.word (omega (arith, shorter, next)) (rw c.in-Some-2.is at c.in_ok-body.ensures.best)

pub else_at-returns-in-None-clause-best : goal.else_at-returns-in-None-clause-best
else_at-returns-in-None-clause-best t c = else_stuck _ c.in-Some.after_else.now c.in-Some.ensures.word (rw c.in-None.is at c.in_ok-body.ensures.best)

pub if_after-returns-in_default-clause-best : goal.if_after-returns-in_default-clause-best
if_after-returns-in_default-clause-best t c = if_untested c.args.line _ (rw c.in_default.is at c.in_ok-test.ensures.best)

pub if_after-returns-in_default-2-clause-best : goal.if_after-returns-in_default-2-clause-best
if_after-returns-in_default-2-clause-best t c = if_empty c.args.line _ c.in-Some.after_test.now c.in-Some.test (rw c.in-Some.is at c.in_ok-test.ensures.best) (rw c.in_default-2.is at c.in_ok-chosen.ensures.best)

pub if_after-returns-clause-best : goal.if_after-returns-clause-best
if_after-returns-clause-best t c = if_some c.args.line _ c.in-Some.after_test.now c.in-Some-2.after_body.now c.in_ok-other.rest.now c.in-Some.test c.in-Some-2.chosen c.in_ok-other.other (rw c.in-Some.is at c.in_ok-test.ensures.best)
    (rw c.in-Some-2.is at c.in_ok-chosen.ensures.best) c.in_ok-other.ensures.best

pub while_after-returns-in_default-clause-best : goal.while_after-returns-in_default-clause-best
while_after-returns-in_default-clause-best t c = then_none (rw c.in_default.is at c.in_ok-test.ensures.best)

pub while_after-returns-in_default-2-clause-best : goal.while_after-returns-in_default-2-clause-best
while_after-returns-in_default-2-clause-best t c = then_once (rw c.in-Some.is at c.in_ok-test.ensures.best) (then_none (rw c.in_default-2.is at c.in_ok-repeated.ensures.best))

pub while_after-returns-clause-best : goal.while_after-returns-clause-best
while_after-returns-clause-best t c = then_once (rw c.in-Some.is at c.in_ok-test.ensures.best) (then_once (rw c.in-Some-2.is at c.in_ok-repeated.ensures.best) given_is)

pub statement_at-returns-in-Some-clause-best : goal.statement_at-returns-in-Some-clause-best
statement_at-returns-in-Some-clause-best t c = statement_of_if _ c.in-Some.after_if.now c.line_of.result _ c.line_of.ensures c.in-Some.ensures.word c.in_ok-found.ensures.best

pub statement_at-returns-in-Some-after_keyword-clause-best : goal.statement_at-returns-in-Some-after_keyword-clause-best
statement_at-returns-in-Some-after_keyword-clause-best t c = statement_of_while _ c.in-Some-after_keyword.after_while.now c.line_of-in-Some-after_keyword.result _ c.line_of-in-Some-after_keyword.ensures c.in-Some-after_keyword.ensures.word c.in_ok-found-2.ensures.best

pub statement_at-returns-in_default-2-clause-best : goal.statement_at-returns-in_default-2-clause-best
statement_at-returns-in_default-2-clause-best t c = statement_none _ c.in_default.ensures.word c.in_default-after_keyword.ensures.word (rw c.in_default-2.is at c.in_ok-simple.ensures.best)

pub statement_at-returns-clause-best : goal.statement_at-returns-clause-best
statement_at-returns-clause-best t c = statement_simple _ c.in-Some-2.rest.now c.in-Some-2.simple c.in_default.ensures.word c.in_default-after_keyword.ensures.word (rw c.in-Some-2.is at c.in_ok-simple.ensures.best)

pub statements_at-loop-statements-init : goal.statements_at-loop-statements-init
statements_at-loop-statements-init t c = record { shorter = le_refl _; carries = λ a h best. rw c.new-statements.ensures best }

pub statements_at-loop-statements-preserved : goal.statements_at-loop-statements-preserved
statements_at-loop-statements-preserved t c = let shorter = rw c.in-Some.is at c.in_ok-statement.ensures.shorter in record {
  shorter = omega (arith, shorter);
  carries = λ a h best. rw (c.in_ok-push.ensures.ok, append_assoc)
      (c.loop-statements.invariant.carries (c.in-Some.statement ∷ a.0, a.1) (omega (arith, shorter))
      (statements_on c.loop-statements.rest.now c.in-Some.after.now c.in-Some.statement a shorter h (rw c.in-Some.is at c.in_ok-statement.ensures.best) best));
}

pub statements_at-returns-clause-best : goal.statements_at-returns-clause-best
statements_at-returns-clause-best t c = rw append-nil at (c.loop-statements.invariant.carries ([], c.loop-statements.rest.now) (le_refl _)
    (statements_none _ (rw c.in_default.is at c.in_ok-statement.ensures.best)))
