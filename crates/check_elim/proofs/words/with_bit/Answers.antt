use Rattle.check_elim.proofs.BitWords.{set_is}
use Rattle.check_elim.proofs.words.with_bit.Goals as goal

pub returns : goal.returns
returns c = set_is c.args.word c.args.at c.requires
