use Rattle.layout_laws.proofs.MemberNumbers.{members_found}
use Rattle.layout_laws.proofs.lookups.a_member_is_found_by_its_name.Goals as goal

pub returns : goal.returns
returns c = members_found
