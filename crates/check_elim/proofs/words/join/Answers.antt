use Rattle.std.proofs.Common.{arith}
use Rattle.check_elim.proofs.BitWords.{has_joined}
use Rattle.check_elim.proofs.words.join.Goals as goal

pub returns-clause-members : goal.returns-clause-members
returns-clause-members c = has_joined c.args.words.now c.args.other.now c.loop-at.words c.requires c.loop-at.invariant.0 (λ j low. c.loop-at.invariant.1 j (omega (arith, low, c.loop-at.invariant.0)))
