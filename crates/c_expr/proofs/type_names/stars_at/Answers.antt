use Rattle.std.proofs.Common.{[], ◌∷◌, append_assoc, append-nil, le_refl, arith}
use Rattle.c_expr.proofs.LongestType.{stars_none, stars_on}
use Rattle.c_expr.proofs.type_names.stars_at.Goals as goal

pub loop-stars-init : goal.loop-stars-init
loop-stars-init c = record { shorter = le_refl _; carries = λ a h best. rw c.new-stars.ensures best }

pub loop-stars-preserved : goal.loop-stars-preserved
loop-stars-preserved c = let shorter = rw c.in-Some.is at c.in_ok-star.ensures.shorter in record {
  shorter = omega (arith, shorter);
  carries = λ a h best. rw (c.in_ok-push.ensures.ok, append_assoc)
      (c.loop-stars.invariant.carries (c.in-Some.star ∷ a.0, a.1) (omega (arith, shorter))
      (stars_on c.loop-stars.rest.now c.in-Some.after.now c.in-Some.star a shorter h (rw c.in-Some.is at c.in_ok-star.ensures.best) best));
}

pub returns-clause-best : goal.returns-clause-best
returns-clause-best c =
    rw append-nil at (c.loop-stars.invariant.carries ([], c.loop-stars.rest.now) (le_refl _) (stars_none _ (rw c.in_default.is at c.in_ok-star.ensures.best)))
