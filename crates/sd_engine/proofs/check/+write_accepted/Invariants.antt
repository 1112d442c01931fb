use Rattle.std.proofs.Common.{length}
use Rattle.sd_engine.proofs.check.+write_accepted.Given as goal

abbrev pub decreases-write_accepted : goal.decreases-write_accepted
decreases-write_accepted g l = length l.texts.now
