use Rattle.c_decl.proofs.OneItem.{unit_only, unit_or_none, one_line, text_only}
use Rattle.c_decl.proofs.laws.one_unit.Goals as goal

pub returns-clause-texts : goal.returns-clause-texts
returns-clause-texts c = λ t x y d e. text_only t x y d e

pub returns-clause-units : goal.returns-clause-units
returns-clause-units c = λ w x y d e. unit_only w x y d e

pub returns-clause-lines : goal.returns-clause-lines
returns-clause-lines c = λ w n m d e. one_line w n m d e

pub returns-clause-apart : goal.returns-clause-apart
returns-clause-apart c = λ w x n d e. unit_or_none w x n d e
