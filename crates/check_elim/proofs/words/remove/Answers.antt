use Rattle.std.proofs.Common.{false}
use Rattle.check_elim.proofs.BitWords.{has-set}
use Rattle.check_elim.proofs.words.remove.Goals as goal

pub returns-clause-members : goal.returns-clause-members
returns-clause-members c = has-set c.args.words.now c.args.number c.without_bit.result false c.requires c.without_bit.ensures
