use Rattle.std.proofs.Common.{rules, sym, ◌∙◌}
use Rattle.deputy_types.proofs.NameEquality.{has-found, with_name-known, with_name-new}
use Rattle.deputy_types.proofs.name_list.NameList.add.Goals as goal

pub returns-then-contains : goal.returns-then-contains
returns-then-contains c = with_name-known _ _ (sym (has-found _ _ _ _ c.self.view_is c.contains.ensures) ∙ c.if-contains.true)

pub returns-in_ok-insert : goal.returns-in_ok-insert
returns-in_ok-insert c = with_name-new _ _ _ _ c.self.view_is (sym (has-found _ _ _ _ c.self.view_is c.contains.ensures) ∙ c.if-contains.false) (search rules) c.in_ok-insert.ensures.keys
