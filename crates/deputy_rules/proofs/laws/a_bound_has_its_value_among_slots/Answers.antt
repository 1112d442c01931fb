use Rattle.deputy_rules.proofs.NamesHave.{slot_edge}
use Rattle.deputy_rules.proofs.laws.a_bound_has_its_value_among_slots.Goals as goal

pub returns : goal.returns
returns c = λ st ctx at v e values value. slot_edge st values ctx at v e value
