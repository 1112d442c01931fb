use Rattle.c_tree.specs.TypeGrammar.{SumAt}
use Rattle.c_expr.specs.Classes.{At, is_in_sums}
use Rattle.c_expr.proofs.Chains.{enclosed_unclosed, enclosed_closed}
use Rattle.c_expr.proofs.Classes.{sums_close}
use Rattle.c_expr.proofs.type_names.count_at.Goals as goal

pub returns-in_default-after_sign-clause-best : goal.returns-in_default-after_sign-clause-best
returns-in_default-after_sign-clause-best c =
    enclosed_unclosed SumAt (At is_in_sums) sums_close _ c.in-Some.inside.now c.in-Some-2.after.now c.in-Some-2.sum c.in-Some.ensures.word
    (rw c.in-Some-2.is at c.in_ok-sum.ensures.best) c.in_default-after_sign.ensures.word

pub returns-clause-best : goal.returns-clause-best
returns-clause-best c =
    enclosed_closed SumAt (At is_in_sums) sums_close _ c.in-Some.inside.now c.in-Some-2.after.now c.in-Some-after_sign.rest.now c.in-Some-2.sum c.in-Some.ensures.word
    (rw c.in-Some-2.is at c.in_ok-sum.ensures.best) c.in-Some-after_sign.ensures.word
