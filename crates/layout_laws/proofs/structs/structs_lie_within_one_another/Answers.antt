use Rattle.layout_laws.proofs.StructsDeclared.{structs_nested}
use Rattle.layout_laws.proofs.structs.structs_lie_within_one_another.Goals as goal

pub returns : goal.returns
returns c = structs_nested
