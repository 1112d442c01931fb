use Rattle.world_core.proofs.Counting.{run-counts}
use Rattle.world_core.proofs.laws.runs_are_counted.Goals as goal

pub returns : goal.returns
returns c = run-counts
