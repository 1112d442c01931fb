use Rattle.deputy_rules.proofs.EdgesHave.{has_edge}
use Rattle.deputy_rules.proofs.laws.a_bound_has_the_value_of_its_annotation.Goals as goal

pub returns : goal.returns
returns c = λ st ctx n sibling at v e names value. has_edge st ctx n sibling at v e names value
