use Rattle.world_core.proofs.Masking.{deliver-masked}
use Rattle.world_core.proofs.laws.masks_hold_interrupts_off.Goals as goal

pub returns : goal.returns
returns c = deliver-masked
