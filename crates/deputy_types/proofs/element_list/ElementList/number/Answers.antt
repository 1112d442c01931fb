use Rattle.deputy_types.proofs.ElementEquality.{number-found}
use Rattle.deputy_types.proofs.element_list.ElementList.number.Goals as goal

pub returns-in-Some : goal.returns-in-Some
returns-in-Some c = number-found _ _ _ _ c.self.view_is c.in-Some.ensures.index

pub returns-in-None : goal.returns-in-None
returns-in-None c = number-found _ _ _ _ c.self.view_is c.in-None.ensures.index
