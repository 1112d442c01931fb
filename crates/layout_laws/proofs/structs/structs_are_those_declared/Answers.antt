use Rattle.layout_laws.proofs.StructsDeclared.{structs_declared}
use Rattle.layout_laws.proofs.structs.structs_are_those_declared.Goals as goal

pub returns : goal.returns
returns c = structs_declared
