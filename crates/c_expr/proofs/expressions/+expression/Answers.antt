use Rattle.std.proofs.Common.{◌≡◌, false, le_refl, arith}
use Rattle.c_expr.specs.ExpressionReading.{opens_type}
use Rattle.c_expr.proofs.LongestPostfix.{postfix_stays, postfix_stuck, member_on, index_on, postfix_on}
use Rattle.c_expr.proofs.LongestPrimary.{null_there, null_missing, primary_single, primary_null, primary_none, primary_open, primary_grouped, closed_open, closed_shut}
use Rattle.c_expr.proofs.LongestRow.{more_end, more_stuck, more_on, row_some, row_last}
use Rattle.c_expr.proofs.LongestUnary.{prefixed_none, prefixed_some, size_none, size_some, cast_untyped, cast_none, cast_some, unary_plain}
use Rattle.c_expr.proofs.expressions.+expression.Goals as goal

pub cast-returns-in_default-clause-best : goal.cast-returns-in_default-clause-best
cast-returns-in_default-clause-best t c = cast_untyped _ c.requires (rw c.in_default.is at c.in_ok-target.ensures.best)

pub cast-returns-in_default-2-clause-best : goal.cast-returns-in_default-2-clause-best
cast-returns-in_default-2-clause-best t c =
    cast_none _ c.in-Some.after_type.now c.in-Some.target c.requires (rw c.in-Some.is at c.in_ok-target.ensures.best) (rw c.in_default-2.is at c.in_ok-operand.ensures.best)

pub cast-returns-clause-best : goal.cast-returns-clause-best
cast-returns-clause-best t c = rw c.in_ok-converted.ensures
    (cast_some _ c.in-Some.after_type.now c.in-Some-2.rest.now c.in-Some.target c.in-Some-2.operand c.requires (rw c.in-Some.is at c.in_ok-target.ensures.best)
    (rw c.in-Some-2.is at c.in_ok-operand.ensures.best))

pub closed-returns-in_default-after_sign-clause-best : goal.closed-returns-in_default-after_sign-clause-best
closed-returns-in_default-after_sign-clause-best t c =
    closed_open c.args.sign _ c.in-Some.after.now c.in-Some.inner c.requires (rw c.in-Some.is at c.in_ok-inner.ensures.best) c.in_default-after_sign.ensures.word

pub closed-returns-clause-best : goal.closed-returns-clause-best
closed-returns-clause-best t c =
    closed_shut c.args.sign _ c.in-Some.after.now c.in-Some-after_sign.rest.now c.in-Some.inner c.requires (rw c.in-Some.is at c.in_ok-inner.ensures.best)
    c.in-Some-after_sign.ensures.word

pub postfix-returns-clause-best : goal.postfix-returns-clause-best
postfix-returns-clause-best t c =
    postfix_on _ c.in-Some.rest.now c.in-Some.first (c.in_ok-whole.whole, c.in_ok-whole.after.now) (rw c.in-Some.is at c.in_ok-first.ensures.best) c.in_ok-whole.ensures.best

pub postfix_more-loop-member-preserved-in-Some : goal.postfix_more-loop-member-preserved-in-Some
postfix_more-loop-member-preserved-in-Some t c = let fewer = c.in-Some.ensures.shorter in record {
  shorter = omega (arith, fewer);
  carries = λ a h best. c.loop-member.invariant.carries a (omega (arith, fewer))
      (member_on c.loop-member.rest.now c.in-Some.after_member.now c.in-Some.member c.loop-member.left a c.in-Some.ensures.word fewer h (rw c.in_ok-left.ensures at best));
}

pub postfix_more-returns-in_default-2-clause-best : goal.postfix_more-returns-in_default-2-clause-best
postfix_more-returns-in_default-2-clause-best t c =
    c.loop-member.invariant.carries (c.loop-member.left, c.loop-member.rest.now) (le_refl _)
    (postfix_stuck c.loop-member.rest.now c.in-Some-after_sign.inside.now c.loop-member.left c.in-Some-after_sign.ensures.word (rw c.in_default-2.is at c.in_ok-index.ensures.best))

pub postfix_more-loop-member-preserved : goal.postfix_more-loop-member-preserved
postfix_more-loop-member-preserved t c =
    let inside = c.in-Some-after_sign.ensures.shorter in let after = rw c.in-Some-2.is at c.in_ok-index.ensures.shorter in record {
      shorter = omega (arith, inside, after);
      carries = λ a h best. c.loop-member.invariant.carries a (omega (arith, inside, after))
          (index_on c.loop-member.rest.now c.in-Some-after_sign.inside.now c.in-Some-2.after_index.now c.loop-member.left c.in-Some-2.index a c.in-Some-after_sign.ensures.word
          (rw c.in-Some-2.is at c.in_ok-index.ensures.best) (omega (arith, inside, after)) h (rw c.in_ok-left-2.ensures at best));
    }

pub postfix_more-returns-in_default-after_sign-clause-best : goal.postfix_more-returns-in_default-after_sign-clause-best
postfix_more-returns-in_default-after_sign-clause-best t c =
    c.loop-member.invariant.carries (c.loop-member.left, c.loop-member.rest.now) (le_refl _)
    (postfix_stays c.loop-member.rest.now c.loop-member.left c.in_default.ensures.word c.in_default-after_sign.ensures.word)

pub primary-returns-in-Some-clause-best : goal.primary-returns-in-Some-clause-best
primary-returns-in-Some-clause-best t c = primary_single _ c.in-Some.after_single.now c.in-Some.single (rw c.in-Some.is at c.in_ok-single.ensures.word)

pub primary-returns-in-Some-after_null-clause-best : goal.primary-returns-in-Some-after_null-clause-best
primary-returns-in-Some-after_null-clause-best t c = rw c.in_ok-null.ensures
    (primary_null _ c.in-Some-after_null.after_zero.now (rw c.in_default.is at c.in_ok-single.ensures.word)
    (null_there _ c.in-Some-after_null.after_zero.now c.in-Some-after_null.ensures.exact))

pub primary-returns-in_default-after_sign-clause-best : goal.primary-returns-in_default-after_sign-clause-best
primary-returns-in_default-after_sign-clause-best t c =
    primary_none _ (rw c.in_default.is at c.in_ok-single.ensures.word) (null_missing _ c.in_default-after_null.ensures.exact) c.in_default-after_sign.ensures.word

pub primary-returns-in_default-2-clause-best : goal.primary-returns-in_default-2-clause-best
primary-returns-in_default-2-clause-best t c =
    primary_open _ c.in-Some-after_sign.inside.now (rw c.in_default.is at c.in_ok-single.ensures.word) (null_missing _ c.in_default-after_null.ensures.exact)
    c.in-Some-after_sign.ensures.word (rw c.in_default-2.is at c.in_ok-inner.ensures.best)

pub primary-returns-clause-best : goal.primary-returns-clause-best
primary-returns-clause-best t c = rw c.in_ok-grouped.ensures
    (primary_grouped _ c.in-Some-after_sign.inside.now c.in-Some-2.rest.now c.in-Some-2.inner (rw c.in_default.is at c.in_ok-single.ensures.word)
    (null_missing _ c.in_default-after_null.ensures.exact) c.in-Some-after_sign.ensures.word (rw c.in-Some-2.is at c.in_ok-inner.ensures.best))

pub row-returns-then-level-eq-ROWS-clause-best : goal.row-returns-then-level-eq-ROWS-clause-best
row-returns-then-level-eq-ROWS-clause-best t c = row_last c.args.level c.args.words.now _ (omega arith) c.in_ok-last.ensures.best

pub row-returns-clause-best : goal.row-returns-clause-best
row-returns-clause-best t c =
    row_some c.args.level _ c.in-Some.rest.now c.in-Some.first (c.in_ok-whole.whole, c.in_ok-whole.after.now) (omega arith) (rw c.in-Some.is at c.in_ok-first.ensures.best)
    c.in_ok-whole.ensures.shorter c.in_ok-whole.ensures.best

pub row_more-returns-in_default-2-clause-best : goal.row_more-returns-in_default-2-clause-best
row_more-returns-in_default-2-clause-best t c =
    c.loop-operator.invariant.carries (c.loop-operator.left, c.loop-operator.rest.now) (le_refl _)
    (more_stuck c.args.level c.loop-operator.rest.now c.in-Some.after_operator.now c.in-Some.operator c.loop-operator.left c.in-Some.ensures.word.0
    (rw c.in_default-2.is at c.in_ok-right.ensures.best))

pub row_more-loop-operator-preserved : goal.row_more-loop-operator-preserved
row_more-loop-operator-preserved t c =
    let inside = c.in-Some.ensures.shorter in let after = rw c.in-Some-2.is at c.in_ok-right.ensures.shorter in record {
      shorter = omega (arith, inside, after);
      carries = λ a h best. c.loop-operator.invariant.carries a (omega (arith, inside, after))
          (more_on c.args.level c.loop-operator.rest.now c.in-Some.after_operator.now c.in-Some-2.after.now c.in-Some.operator c.loop-operator.left c.in-Some-2.right a
          c.in-Some.ensures.word.0 c.in-Some.ensures.word.1 (rw c.in-Some-2.is at c.in_ok-right.ensures.best) (omega (arith, inside, after)) h (rw c.in_ok-left.ensures at best));
    }

pub row_more-returns-clause-best : goal.row_more-returns-clause-best
row_more-returns-clause-best t c =
    c.loop-operator.invariant.carries (c.loop-operator.left, c.loop-operator.rest.now) (le_refl _)
    (more_end c.args.level c.loop-operator.rest.now c.loop-operator.left c.in_default.ensures.word)

pub unary-returns-in_default-2-clause-best : goal.unary-returns-in_default-2-clause-best
unary-returns-in_default-2-clause-best t c =
    prefixed_none _ c.in-Some.after_operator.now c.in-Some.operator c.in-Some.ensures.word (rw c.in_default-2.is at c.in_ok-operand.ensures.best)

pub unary-returns-in-Some-clause-best : goal.unary-returns-in-Some-clause-best
unary-returns-in-Some-clause-best t c = rw c.in_ok-prefixed.ensures
    (prefixed_some _ c.in-Some.after_operator.now c.in-Some-2.rest.now c.in-Some.operator c.in-Some-2.operand c.in-Some.ensures.word
    (rw c.in-Some-2.is at c.in_ok-operand.ensures.best))

pub unary-returns-in_default-3-clause-best : goal.unary-returns-in_default-3-clause-best
unary-returns-in_default-3-clause-best t c =
    size_none _ c.in-Some-after_keyword.after_word.now c.in-Some-after_keyword.ensures.word (rw c.in_default-3.is at c.in_ok-measured.ensures.best)

pub unary-returns-in-Some-after_keyword-clause-best : goal.unary-returns-in-Some-after_keyword-clause-best
unary-returns-in-Some-after_keyword-clause-best t c = rw c.in_ok-size.ensures
    (size_some _ c.in-Some-after_keyword.after_word.now c.in-Some-3.rest.now c.in-Some-3.measured c.in-Some-after_keyword.ensures.word
    (rw c.in-Some-3.is at c.in_ok-measured.ensures.best))

pub unary-returns-clause-best : goal.unary-returns-clause-best
unary-returns-clause-best t c = let typeless : opens_type c.args.words.now ≡ false = cc in
    unary_plain _ _ c.in_default.ensures.word c.in_default-after_keyword.ensures.word typeless c.in_ok-plain.ensures.best
