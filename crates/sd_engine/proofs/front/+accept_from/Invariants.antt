use Rattle.std.proofs.Common.{length}
use Rattle.sd_engine.proofs.front.+accept_from.Given as goal

abbrev pub decreases-accept_from : goal.decreases-accept_from
decreases-accept_from l = length l.texts.now
