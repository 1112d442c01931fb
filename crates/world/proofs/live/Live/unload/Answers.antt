use Rattle.std.proofs.Common.{◌∙◌, ap, is_some}
use Rattle.world_core.specs.Loading.{unload_obstacle}
use Rattle.world_core.specs.WorldState.{driver_of}
use Rattle.world.specs.Standing.{units_of, here}
use Rattle.world.proofs.Orders.{tells-busy, found-unload, unload-declined, unload-done}
use Rattle.world.proofs.live.Live.unload.Goals as goal

pub returns-in-None : goal.returns-in-None
returns-in-None g c = unload-done {units = units_of c.args.drivers.now.list.items}
    {a = here c.args.self.now c.args.report.now (g.K.Sink.written c.args.sink.now) (g.K.Sink.faults c.args.sink.now)}
    c.args.driver (is_some c.busy_task-busy.result) (tells-busy (units_of c.args.drivers.now.list.items) _ c.args.driver c.busy_task-busy.result c.busy_task-busy.ensures)
    (found-unload (driver_of c.args.self.now.ground.run c.args.driver) _ (is_some c.busy_task-busy.result) _ c.driver-state.ensures
    (c.unload_obstacle.ensures ∙ ap (unload_obstacle c.driver-state.result.standing) c.is_some.ensures) ∙ c.in-None.is) c.take_away.ensures

pub returns-in-Some : goal.returns-in-Some
returns-in-Some g c = unload-declined {units = units_of c.args.drivers.now.list.items}
    {a = here c.args.self.now c.args.report.now (g.K.Sink.written c.args.sink.now) (g.K.Sink.faults c.args.sink.now)}
    c.args.driver (is_some c.busy_task-busy.result) _ (tells-busy (units_of c.args.drivers.now.list.items) _ c.args.driver c.busy_task-busy.result c.busy_task-busy.ensures)
    (found-unload (driver_of c.args.self.now.ground.run c.args.driver) _ (is_some c.busy_task-busy.result) _ c.driver-state.ensures
    (c.unload_obstacle.ensures ∙ ap (unload_obstacle c.driver-state.result.standing) c.is_some.ensures) ∙ c.in-Some.is) c.decline.ensures
