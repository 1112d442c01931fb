use Rattle.check_elim.proofs.BitWords.{test_is}
use Rattle.check_elim.proofs.words.bit.Goals as goal

pub returns : goal.returns
returns c = test_is c.args.word c.args.at
