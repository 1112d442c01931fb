use Rattle.c_expr.proofs.LongestType.{annotation_safe, annotation_sentinel, annotation_nullterm, count_some, bound_some}
use Rattle.c_expr.proofs.type_names.annotation_at.Goals as goal

pub returns-in-Safe-clause-best : goal.returns-in-Safe-clause-best
returns-in-Safe-clause-best c = annotation_safe _ _ (rw c.in-Safe.is at c.in-Some.ensures.word)

pub returns-in-Sentinel-clause-best : goal.returns-in-Sentinel-clause-best
returns-in-Sentinel-clause-best c = annotation_sentinel _ _ (rw c.in-Sentinel.is at c.in-Some.ensures.word)

pub returns-in-Nullterm-clause-best : goal.returns-in-Nullterm-clause-best
returns-in-Nullterm-clause-best c = annotation_nullterm _ _ (rw c.in-Nullterm.is at c.in-Some.ensures.word)

pub returns-in-Some-2-clause-best : goal.returns-in-Some-2-clause-best
returns-in-Some-2-clause-best c =
    count_some _ c.in-Some.rest.now c.in-Some-2.after.now c.in-Some-2.sum (rw c.in-Count.is at c.in-Some.ensures.word) (rw c.in-Some-2.is at c.in_ok-sum-in-Count.ensures.best)

pub returns-in-Some-bound_at-clause-best : goal.returns-in-Some-bound_at-clause-best
returns-in-Some-bound_at-clause-best c =
    bound_some _ c.in-Some.rest.now c.in-Some-bound_at.after.now c.in-Some-bound_at.ends (rw c.in-Bound.is at c.in-Some.ensures.word)
    c.in-Some-bound_at.ensures.best
