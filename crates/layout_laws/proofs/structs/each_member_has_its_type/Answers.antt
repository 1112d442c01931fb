use Rattle.layout_laws.proofs.MemberTypeLaws.{members_typed}
use Rattle.layout_laws.proofs.structs.each_member_has_its_type.Goals as goal

pub returns : goal.returns
returns c = members_typed
