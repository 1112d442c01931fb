use Rattle.world_core.proofs.Masking.{irq-masked}
use Rattle.world_core.proofs.laws.raised_lines_wait.Goals as goal

pub returns : goal.returns
returns c = irq-masked
