use Rattle.world_core.proofs.Staying.{shaped}
use Rattle.world_core.proofs.laws.worlds_keep_their_shape.Goals as goal

pub returns : goal.returns
returns c = shaped
