use Rattle.world_core.proofs.Waiting.{never-lost}
use Rattle.world_core.proofs.laws.waiting_lines_are_never_lost.Goals as goal

pub returns : goal.returns
returns c = never-lost
