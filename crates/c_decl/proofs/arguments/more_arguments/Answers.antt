use Rattle.std.proofs.Common.{[], ◌∷◌, None, Some, le_refl, arith}
use Rattle.c_decl.proofs.LongestAction.{more_none, more_open, more_last, more_on, behind-behind, behind-none}
use Rattle.c_decl.proofs.arguments.more_arguments.Goals as goal

pub loop-arguments-init : goal.loop-arguments-init
loop-arguments-init c = record { shorter = le_refl _; carries = λ o best. rw (c.new-arguments.ensures, behind-none o) best }

pub returns-in_default-clause-best : goal.returns-in_default-clause-best
returns-in_default-clause-best c = c.loop-arguments.invariant.carries None (more_none _ (rw c.in_default.is at c.in_ok-argument.ensures.best))

pub returns-in-Some-after_sign-clause-best : goal.returns-in-Some-after_sign-clause-best
returns-in-Some-after_sign-clause-best c = rw (c.in_ok-push.ensures.ok, c.into_inner.ensures)
    (c.loop-arguments.invariant.carries (Some (c.in-Some.argument ∷ [], c.in-Some-after_sign.after_last.now))
    (more_last _ c.in-Some.after.now c.in-Some-after_sign.after_last.now c.in-Some.argument (rw c.in-Some.is at c.in_ok-argument.ensures.best) c.in-Some-after_sign.ensures.word))

pub returns-in_default-after_sign-2-clause-best : goal.returns-in_default-after_sign-2-clause-best
returns-in_default-after_sign-2-clause-best c =
    c.loop-arguments.invariant.carries None
    (more_open _ c.in-Some.after.now c.in-Some.argument (rw c.in-Some.is at c.in_ok-argument.ensures.best) c.in_default-after_sign.ensures.word c.in_default-after_sign-2.ensures.word)

pub loop-arguments-preserved : goal.loop-arguments-preserved
loop-arguments-preserved c = let fewer = rw c.in-Some.is at c.in_ok-argument.ensures.shorter in let next = c.in-Some-after_sign-2.ensures.shorter in record {
  shorter = omega (arith, fewer, next);
  carries = λ o best. rw (c.in_ok-push.ensures.ok, c.into_inner.ensures, behind-behind)
      (c.loop-arguments.invariant.carries _
      (more_on _ c.in-Some.after.now c.in-Some-after_sign-2.next.now c.in-Some.argument o (rw c.in-Some.is at c.in_ok-argument.ensures.best) c.in-Some-after_sign-2.ensures.word best));
}
