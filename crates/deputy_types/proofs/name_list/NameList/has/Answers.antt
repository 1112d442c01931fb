use Rattle.deputy_types.proofs.NameEquality.{has-found}
use Rattle.deputy_types.proofs.name_list.NameList.has.Goals as goal

pub returns : goal.returns
returns c = has-found _ _ _ _ c.self.view_is c.contains.ensures
