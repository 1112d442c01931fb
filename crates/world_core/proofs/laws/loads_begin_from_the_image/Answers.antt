use Rattle.world_core.proofs.Loading.{load-state}
use Rattle.world_core.proofs.laws.loads_begin_from_the_image.Goals as goal

pub returns : goal.returns
returns c = λ plan driver task s. load-state plan driver task s
