use Rattle.world_core.proofs.Delivered.{deliver-complete}
use Rattle.world_core.proofs.laws.delivery_is_complete.Goals as goal

pub returns : goal.returns
returns c = deliver-complete
