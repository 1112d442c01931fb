use Rattle.c_decl.proofs.ItemExistence.{unit_end}
use Rattle.c_decl.proofs.laws.some_unit.Goals as goal

pub returns : goal.returns
returns c = λ w. unit_end w
