use Rattle.std.proofs.Common.{ap, rules}
use Rattle.std.specs.Ordering.{is_lt}
use Rattle.std.proofs.lemmas.List.Sorted.{sorted_far, ranks_by, answers_always}
use Rattle.dep_expr.specs.declared.inequality.Ineq.{Ineq}
use Rattle.check_elim.specs.Order.{fact_cmp}
use Rattle.check_elim.specs.Tables.{AreSorted}
use Rattle.check_elim.proofs.FactLists.{fact_total}
use Rattle.check_elim.proofs.inequalities.sort.Goals as goal

pub returns-clause-order : goal.returns-clause-order
unfolding AreSorted
returns-clause-order c =
    sorted_far (λ (x y : Ineq). is_lt (fact_cmp x y)) (ranks_by fact_total (λ (i : Ineq). i)) _
    (c.sort_unstable_by.ensures.sorted (λ (x y : Ineq). is_lt (fact_cmp x y)) (ranks_by fact_total (λ (i : Ineq). i)) (answers_always _ _ _ (λ g a r h k. ap is_lt (search rules))))
