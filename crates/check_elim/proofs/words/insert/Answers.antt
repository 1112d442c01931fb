use Rattle.std.proofs.Common.{true}
use Rattle.check_elim.proofs.BitWords.{has-set}
use Rattle.check_elim.proofs.words.insert.Goals as goal

pub returns-clause-members : goal.returns-clause-members
returns-clause-members c = has-set c.args.words.now c.args.number c.with_bit.result true c.requires (λ j low. c.with_bit.ensures j)
