use Rattle.std.proofs.Common.{Some, None, [], ◌∷◌, append_assoc, append-nil, le_refl, arith}
use Rattle.c_expr.proofs.LongestTerm.{first_is, signed_is}
use Rattle.c_expr.proofs.LongestType.{sum_none, sum_on, terms_none, terms_on}
use Rattle.c_expr.proofs.sums.sum_at.Goals as goal

pub returns-in_default-clause-best : goal.returns-in_default-clause-best
returns-in_default-clause-best c = sum_none _ (first_is _ None c.in_default.ensures.exact)

pub loop-term-init : goal.loop-term-init
loop-term-init c = record {
  shorter = c.in-Some.ensures.shorter;
  carries = λ a h best. rw (c.in_ok-push.ensures.ok, c.new-terms.ensures)
      (sum_on _ c.in-Some.after_first.now c.in-Some.first a h (first_is _ (Some (c.in-Some.first, c.in-Some.after_first.now)) c.in-Some.ensures.exact) best);
}

pub loop-term-preserved : goal.loop-term-preserved
loop-term-preserved c = record {
  shorter = omega (arith, c.in-Some-signed_at.ensures.shorter);
  carries = λ a h best. rw (c.in_ok-push-2.ensures.ok, append_assoc)
      (c.loop-term.invariant.carries (c.in-Some-signed_at.term ∷ a.0, a.1) (omega (arith, c.in-Some-signed_at.ensures.shorter))
      (terms_on c.loop-term.rest.now c.in-Some-signed_at.after.now c.in-Some-signed_at.term a c.in-Some-signed_at.ensures.shorter h
      (signed_is _ (Some (c.in-Some-signed_at.term, c.in-Some-signed_at.after.now)) c.in-Some-signed_at.ensures.exact) best));
}

pub returns-clause-best : goal.returns-clause-best
returns-clause-best c =
    rw append-nil at (c.loop-term.invariant.carries ([], c.loop-term.rest.now) (le_refl _) (terms_none _ (signed_is _ None c.in_default-signed_at.ensures.exact)))
