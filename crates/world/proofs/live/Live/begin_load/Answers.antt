use Rattle.std.proofs.Common.{refl}
use Rattle.world.proofs.HostLoads.{leads-loads}
use Rattle.world.proofs.live.Live.begin_load.Goals as goal

pub returns : goal.returns
returns c = λ kept written faults. leads-loads c.args.driver c.args.task c.load_state.ensures refl refl refl (c.begin_init.ensures kept written faults)
