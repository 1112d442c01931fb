-- Automatic restarts, at the end of each event.
--
-- While a driver is due, the one of least number is no longer due, its restarts left fall by one, and `restart dK T` takes place with its
-- load task, refusals printed as there; then delivery.
-- Here: restarts
use Rattle.std.specs.Prelude.{ℕ, ◌+◌, ◌-◌, Bool, false, not, ◌&&◌, List, [], ◌∷◌}
use Rattle.std.specs.List.{list_any, position_or_len}
use Rattle.world_core.specs.declared.run_state.DriverState.{DriverState}
use Rattle.world_core.specs.declared.run_state.RunState.{RunState}
use Rattle.world_core.specs.WorldState.{WorldState, driver_of, with_driver, is_over}
use Rattle.world_core.specs.Script.{Script, on_run, by_run, while_at_most, ◌>>◌}
use Rattle.world_core.specs.Delivering.{deliver}
use Rattle.world_core.specs.Loading.{restart}

-- the restarts left of all drivers
abbrev pub restarts_left : List DriverState → ℕ
restarts_left [] = 0
restarts_left (d ∷ ds) = d.restarts + restarts_left ds

-- the driver of least number that is due
abbrev pub least_due : RunState → ℕ
least_due run = position_or_len (λ (d : DriverState). d.is_due) run.drivers + 1

-- it is no longer due, and its restarts left fall by one
abbrev pub one_restart_used : ℕ → RunState → RunState
one_restart_used driver run =
    with_driver driver (record (driver_of run driver) { restarts = (driver_of run driver).restarts - 1; is_due = false }) run

abbrev pub restarts_driver : RunState → ℕ → Script
restarts_driver run driver = on_run (one_restart_used driver) >> restart driver (driver_of run driver).task >> deliver

-- the run goes on, and a driver is due
abbrev pub has_due_driver : WorldState → Bool
has_due_driver s = not (is_over s.run) && list_any (λ (d : DriverState). d.is_due) s.run.drivers

unfoldable pub restarts_least : Script
restarts_least = by_run (λ run. restarts_driver run (least_due run))

-- A driver is due only where it has restarts left, and each turn takes one.
unfoldable pub restarts : Script
restarts = by_run (λ run. while_at_most (restarts_left run.drivers) has_due_driver restarts_least)
