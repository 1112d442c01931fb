use Rattle.world_core.proofs.Lawful.{run-lawful}
use Rattle.world_core.proofs.laws.histories_are_lawful.Goals as goal

pub returns : goal.returns
returns c = run-lawful
