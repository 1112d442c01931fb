-- Names that differ each tell their own text.
use Rattle.sd_outside.proofs.Distinct.{TellsEach-from_names}
use Rattle.sd_outside.proofs.memory_shelf.MemShelf.new.Goals as goal

pub returns-clause-told : goal.returns-clause-told
returns-clause-told c = rw c.new.ensures (TellsEach-from_names _ c.requires.differ)
