use Rattle.layout_laws.proofs.Nested.{nested}
use Rattle.layout_laws.proofs.struct_laws.structs_are_nested.Goals as goal

pub returns : goal.returns
returns c = nested
