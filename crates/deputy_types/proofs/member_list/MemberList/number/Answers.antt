use Rattle.deputy_types.proofs.MemberEquality.{number-found}
use Rattle.deputy_types.proofs.member_list.MemberList.number.Goals as goal

pub returns-in-Some : goal.returns-in-Some
returns-in-Some c = number-found _ (record { part = c.args.part; name = c.args.name.now }) _ _ c.self.view_is c.in-Some.ensures.index

pub returns-in-None : goal.returns-in-None
returns-in-None c = number-found _ (record { part = c.args.part; name = c.args.name.now }) _ _ c.self.view_is c.in-None.ensures.index
