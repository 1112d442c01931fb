use Rattle.std.proofs.Common.{◌∙◌}
use Rattle.world.proofs.Orders.{found-restart, restart-declined, restart-done, restart-idle}
use Rattle.world.proofs.live.Live.restart.Goals as goal

pub restart_driver_on-requires-clause-idle : goal.restart_driver_on-requires-clause-idle
restart_driver_on-requires-clause-idle g c =
    restart-idle _ _ (found-restart _ _ _ _ _ c.driver-state.ensures c.is_busy-busy.ensures c.restart_obstacle.ensures ∙ c.in-None.is)

pub returns-in-None : goal.returns-in-None
returns-in-None g c = restart-done _ _ (found-restart _ _ _ _ _ c.driver-state.ensures c.is_busy-busy.ensures c.restart_obstacle.ensures ∙ c.in-None.is)
    c.restart_driver_on.ensures

pub returns-in-Some : goal.returns-in-Some
returns-in-Some g c = restart-declined _ _ _ (found-restart _ _ _ _ _ c.driver-state.ensures c.is_busy-busy.ensures c.restart_obstacle.ensures ∙ c.in-Some.is)
    c.decline.ensures
