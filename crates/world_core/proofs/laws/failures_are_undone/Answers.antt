use Rattle.world_core.proofs.Taking.{failure}
use Rattle.world_core.proofs.laws.failures_are_undone.Goals as goal

pub returns : goal.returns
returns c = λ who kind line s. failure who kind line s
