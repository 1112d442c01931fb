use Rattle.std.proofs.Common.{refl}
use Rattle.world_core.specs.Loading.{driver_loaded, loads}
use Rattle.world.specs.Standing.{units_of, here}
use Rattle.world.proofs.Standing.{leads-run, good-after}
use Rattle.world.proofs.Turns.{says}
use Rattle.world.proofs.Orders.{loads-then}
use Rattle.world.proofs.live.Live.load_driver.Goals as goal

pub begin_load-requires-clause-good : goal.begin_load-requires-clause-good
begin_load-requires-clause-good g c = record {
  kept = c.args.report.now;
  written = g.K.Sink.written c.args.sink.now;
  faults = g.K.Sink.faults c.args.sink.now;
  good = good-after c.requires.good (leads-run (units_of c.args.drivers.now.list.items) _ (here _ _ _ _) (driver_loaded c.args.driver c.args.task c.args.restarts) c.load.ensures refl refl refl);
}

pub returns : goal.returns
returns g c = loads-then (driver_loaded c.args.driver c.args.task c.args.restarts) (λ plan. loads plan c.args.driver c.args.task) _
    (leads-run _ _ _ (driver_loaded c.args.driver c.args.task c.args.restarts) c.load.ensures refl refl refl) (c.begin_load.ensures _ _ _)
    (says _ _ _ refl c.say.ensures)
