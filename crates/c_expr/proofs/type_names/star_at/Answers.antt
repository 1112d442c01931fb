use Rattle.c_expr.proofs.LongestType.{star_plain, star_annotated}
use Rattle.c_expr.proofs.type_names.star_at.Goals as goal

pub returns-in_default-2-clause-best : goal.returns-in_default-2-clause-best
returns-in_default-2-clause-best c = star_plain _ c.in-Some.after_star.now c.in-Some.ensures.word (rw c.in_default-2.is at c.in_ok-annotation.ensures.best)

pub returns-clause-best : goal.returns-clause-best
returns-clause-best c =
    star_annotated _ c.in-Some.after_star.now c.in-Some-2.rest.now c.in-Some-2.annotation c.in-Some.ensures.word (rw c.in-Some-2.is at c.in_ok-annotation.ensures.shorter)
    (rw c.in-Some-2.is at c.in_ok-annotation.ensures.best)
