use Rattle.check_elim.proofs.BitWords.{clear_is}
use Rattle.check_elim.proofs.words.without_bit.Goals as goal

pub returns : goal.returns
returns c = clear_is c.args.word c.args.at c.requires
