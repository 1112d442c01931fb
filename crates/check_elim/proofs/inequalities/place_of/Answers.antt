use Rattle.std.proofs.Common.{sym, ap, ◌∙◌, rules}
use Rattle.std.specs.Option.{option_copied}
use Rattle.std.specs.Ordering.{is_lt}
use Rattle.std.proofs.lemmas.List.Sorted.{IsPartitionPoint-from_clause}
use Rattle.dep_expr.specs.declared.inequality.Ineq.{Ineq}
use Rattle.check_elim.specs.Order.{fact_cmp}
use Rattle.check_elim.proofs.FactLists.{sorted_parted, none_there, other_there, it_is_there}
use Rattle.check_elim.proofs.inequalities.place_of.Goals as goal

pub returns-in-None : goal.returns-in-None
returns-in-None c =
    let point = IsPartitionPoint-from_clause (λ (y : Ineq). is_lt (fact_cmp y c.args.i.now)) c.args.facts.now c.partition_point-place.result c.partition_point-place.ensures.partitioned (sorted_parted c.args.facts.now c.args.i.now c.requires) (λ a r q k. search rules) in
    none_there c.args.facts.now c.args.i.now c.partition_point-place.result c.requires point.0 point.1 (sym c.at.ensures ∙ ap option_copied c.in-None.is)

pub returns-then-is_before : goal.returns-then-is_before
returns-then-is_before c =
    let point = IsPartitionPoint-from_clause (λ (y : Ineq). is_lt (fact_cmp y c.args.i.now)) c.args.facts.now c.partition_point-place.result c.partition_point-place.ensures.partitioned (sorted_parted c.args.facts.now c.args.i.now c.requires) (λ a r q k. search rules) in
    other_there c.args.facts.now c.args.i.now c.partition_point-place.result c.requires point.0 point.1 c.in-Some.fact.now (sym c.at.ensures ∙ ap option_copied c.in-Some.is) (sym c.is_before.ensures ∙ c.if-is_before.true)

pub returns-else-is_before : goal.returns-else-is_before
returns-else-is_before c =
    let point = IsPartitionPoint-from_clause (λ (y : Ineq). is_lt (fact_cmp y c.args.i.now)) c.args.facts.now c.partition_point-place.result c.partition_point-place.ensures.partitioned (sorted_parted c.args.facts.now c.args.i.now c.requires) (λ a r q k. search rules) in
    it_is_there c.args.facts.now c.args.i.now c.partition_point-place.result c.requires point.0 point.1 c.in-Some.fact.now (sym c.at.ensures ∙ ap option_copied c.in-Some.is) (sym c.is_before.ensures ∙ c.if-is_before.false)
