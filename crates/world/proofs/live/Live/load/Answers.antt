use Rattle.std.proofs.Common.{◌∙◌}
use Rattle.world.proofs.Orders.{found-load, load-declined, load-done, load-idle}
use Rattle.world.proofs.live.Live.load.Goals as goal

pub load_driver-requires-clause-idle : goal.load_driver-requires-clause-idle
load_driver-requires-clause-idle g c =
    load-idle _ _ _ (found-load _ _ _ _ _ _ _ c.driver-state.ensures c.init_in-init.ensures c.is_busy-busy.ensures c.load_obstacle.ensures ∙ c.in-None.is)

pub returns-in-None : goal.returns-in-None
returns-in-None g c = load-done _ _ _
    (found-load _ _ _ _ _ _ _ c.driver-state.ensures c.init_in-init.ensures c.is_busy-busy.ensures c.load_obstacle.ensures ∙ c.in-None.is) c.load_driver.ensures

pub returns-in-Some : goal.returns-in-Some
returns-in-Some g c = load-declined _ _ _ _
    (found-load _ _ _ _ _ _ _ c.driver-state.ensures c.init_in-init.ensures c.is_busy-busy.ensures c.load_obstacle.ensures ∙ c.in-Some.is) c.decline.ensures
