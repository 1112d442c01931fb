use Rattle.std.proofs.Common.{refl}
use Rattle.world_core.specs.Inputs.{kernel}
use Rattle.world.proofs.Standing.{leads-ground}
use Rattle.world.proofs.Orders.{beside-kernel}
use Rattle.world.proofs.live.Live.ask_of_kernel.Goals as goal

pub returns : goal.returns
returns g c = leads-ground _ _ _ (kernel c.args.event.now) (beside-kernel c.args.event.now) refl (c.kernel.ensures _)
