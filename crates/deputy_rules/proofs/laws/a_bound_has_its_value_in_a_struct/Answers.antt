use Rattle.deputy_rules.proofs.NamesHave.{member_edge}
use Rattle.deputy_rules.proofs.laws.a_bound_has_its_value_in_a_struct.Goals as goal

pub returns : goal.returns
returns c = λ st ctx place a s t at v e is named value. member_edge st ctx place a s t is at v e named value
