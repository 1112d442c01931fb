use Rattle.std.proofs.Common.{refl}
use Rattle.run_report.specs.declared.item.Item.TheVariants as item
use Rattle.world_core.specs.Loading.{driver_unloaded}
use Rattle.world.specs.Standing.{here}
use Rattle.world.proofs.Standing.{leads-then}
use Rattle.world.proofs.Dropping.{leads-taken}
use Rattle.world.proofs.Turns.{says}
use Rattle.world.proofs.live.Live.take_away.Goals as goal

pub returns : goal.returns
returns g c = leads-then {b = here (record { ground = c.say.new.self; machine = c.args.self.now.machine }) c.say.new.report (g.K.Sink.written c.say.new.sink) (g.K.Sink.faults c.say.new.sink)}
    (says _ _ (item.Unloaded c.args.driver) refl c.say.ensures)
    (leads-taken _ _ _ c.args.driver (driver_unloaded c.args.driver) c.drop_owner.ensures c.unload.ensures)
