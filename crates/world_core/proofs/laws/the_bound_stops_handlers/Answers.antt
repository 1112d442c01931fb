use Rattle.world_core.proofs.Ending.{handler-spent}
use Rattle.world_core.proofs.laws.the_bound_stops_handlers.Goals as goal

pub returns : goal.returns
returns c = handler-spent
