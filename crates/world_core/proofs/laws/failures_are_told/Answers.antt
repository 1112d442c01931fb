use Rattle.world_core.proofs.Telling.{failed-exactly}
use Rattle.world_core.proofs.laws.failures_are_told.Goals as goal

pub returns : goal.returns
returns c = failed-exactly
