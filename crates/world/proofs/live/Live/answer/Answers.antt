use Rattle.std.proofs.Common.{refl}
use Rattle.world_core.specs.Inputs.{answered}
use Rattle.world.specs.Standing.{units_of, here}
use Rattle.world.proofs.Composing.{leads-on_devices}
use Rattle.world.proofs.live.Live.answer.Goals as goal

pub returns : goal.returns
returns c = λ kept written faults. leads-on_devices (units_of c.args.drivers.now.list.items) (here c.args.self.now kept written faults) _
    (answered c.args.port c.args.values.now) c.answer.ensures refl refl refl
