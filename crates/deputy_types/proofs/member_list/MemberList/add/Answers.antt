use Rattle.std.proofs.Common.{rules, sym, ◌∙◌}
use Rattle.deputy_types.proofs.MemberEquality.{has-found, known, added}
use Rattle.deputy_types.proofs.member_list.MemberList.add.Goals as goal

pub returns-then-contains : goal.returns-then-contains
returns-then-contains c = known _ _ (sym (has-found _ _ _ _ c.self.view_is c.contains.ensures) ∙ c.if-contains.true)

pub returns-then-len : goal.returns-then-len
returns-then-len c = added _ _ _ _ c.self.view_is (sym (has-found _ _ _ _ c.self.view_is c.contains.ensures) ∙ c.if-contains.false) (search rules) c.in_ok-insert.ensures.keys
