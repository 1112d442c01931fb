use Rattle.std.proofs.Common.{◌≡◌, ℕ, not, List, subst, sym, rules, leb, nat_lt, ◌&&◌, slice_get}
use Rattle.std.specs.Ordering.{is_lt}
use Rattle.std.proofs.lemmas.List.Sorted.{IsPartitionPoint-from_clause}
use Rattle.dep_expr.specs.declared.inequality.Ineq.{Ineq}
use Rattle.check_elim.specs.Order.{terms_cmp, form_cmp, IsInOrder}
use Rattle.check_elim.specs.Runs.{line_implies}
use Rattle.check_elim.specs.Sets.{AreInequalities}
use Rattle.check_elim.proofs.Orders.{before_parted, up_to_parted, run_is}
use Rattle.check_elim.proofs.runs.run_of.Goals as goal

pub returns-clause-members : goal.returns-clause-members
unfolding AreInequalities
returns-clause-members c =
    let list : List Ineq = c.as_slice-facts.result.now in
    let s : Ineq = c.args.strong.now in
    let order : IsInOrder list = subst IsInOrder (sym c.as_slice-facts.ensures.value) c.requires.order in
    let first = IsPartitionPoint-from_clause (λ (y : Ineq). is_lt (terms_cmp y.left.terms s.left.terms)) list c.partition_point.result c.partition_point.ensures.partitioned (before_parted list s.left order) (λ a r q k. search rules) in
    let last = IsPartitionPoint-from_clause (λ (y : Ineq). not (is_lt (form_cmp s.left y.left))) list c.partition_point-2.result c.partition_point-2.ensures.partitioned (up_to_parted list s.left order) (λ a r q k. search rules) in
    subst (λ (l : List Ineq). (j : ℕ) → (leb c.partition_point.result j && nat_lt j c.partition_point-2.result) ≡ line_implies s (slice_get l j)) c.as_slice-facts.ensures.value
    (run_is list s c.partition_point.result c.partition_point-2.result c.partition_point-2.ensures.bound first.0 first.1 last.0 last.1)
