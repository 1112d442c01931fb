use Rattle.world_core.proofs.Ending.{events-over}
use Rattle.world_core.proofs.laws.nothing_follows_the_bound.Goals as goal

pub returns : goal.returns
returns c = events-over
