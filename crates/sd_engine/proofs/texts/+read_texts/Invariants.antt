use Rattle.std.proofs.Common.{length}
use Rattle.sd_engine.proofs.texts.+read_texts.Given as goal

abbrev pub decreases-read_texts : goal.decreases-read_texts
decreases-read_texts g l = length l.files.now
