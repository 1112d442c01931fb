use Rattle.std.proofs.Common.{ap}
use Rattle.world_core.specs.declared.run_state.DriverState.{DriverState}
use Rattle.world.specs.Standing.{units_of, here}
use Rattle.world.proofs.Orders.{call-declined, call-done, call-idle}
use Rattle.world.proofs.live.Live.call.Goals as goal

pub make_call-requires-clause-idle : goal.make_call-requires-clause-idle
make_call-requires-clause-idle g c = call-idle {units = units_of c.args.drivers.now.list.items}
    {a = here c.args.self.now c.args.report.now (g.K.Sink.written c.args.sink.now) (g.K.Sink.faults c.args.sink.now)}
    {driver = c.args.driver} {name = c.args.name.now} {values = c.args.values.now} (record {
      stands = ap (λ (d : DriverState). d.standing) c.driver-state.ensures;
      named = c.function_in-function.ensures;
      fits = _;
      fitting = c.fits_in-fits.ensures;
      busy = _;
      working = c.is_busy-busy.ensures;
      is = c.call_obstacle.ensures;
    }) c.in-None.is

pub returns-in-None : goal.returns-in-None
returns-in-None g c = call-done (record {
  stands = ap (λ (d : DriverState). d.standing) c.driver-state.ensures;
  named = c.function_in-function.ensures;
  fits = _;
  fitting = c.fits_in-fits.ensures;
  busy = _;
  working = c.is_busy-busy.ensures;
  is = c.call_obstacle.ensures;
}) c.in-None.is c.make_call.ensures

pub returns-in-Some : goal.returns-in-Some
returns-in-Some g c = call-declined _ (record {
  stands = ap (λ (d : DriverState). d.standing) c.driver-state.ensures;
  named = c.function_in-function.ensures;
  fits = _;
  fitting = c.fits_in-fits.ensures;
  busy = _;
  working = c.is_busy-busy.ensures;
  is = c.call_obstacle.ensures;
}) c.in-Some.is c.decline.ensures
