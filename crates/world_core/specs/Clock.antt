-- `tick N`.
-- Here: tick
use Rattle.std.specs.Prelude.{ℕ, ◌+◌, Bool, not, ◌&&◌, ltb, Option, Some, None, is_some}
use Rattle.sd_base.specs.declared.history.Update.TheVariants as update
use Rattle.sd_base.specs.History.{History, live_of, clock_of}
use Rattle.timer_table.specs.declared.fired.Fired.{Fired}
use Rattle.timer_table.specs.Order.{next_of, timers_of}
use Rattle.run_report.specs.declared.item.Item.TheVariants as item
use Rattle.world_core.specs.WorldState.{WorldState, is_over}
use Rattle.world_core.specs.Script.{Script, nothing, say, updates, by_run, by_history, given, while_at_most, unless_over, ◌>>◌}
use Rattle.world_core.specs.Handling.{handles}
use Rattle.world_core.specs.Delivering.{deliver}

-- the live timer that is due first by this moment, then by its owner, then by its id
abbrev pub due_by : ℕ → History → Option Fired
due_by target h = next_of target (timers_of (live_of h))

-- `timer dK I`: the clock becomes its due, it is fired, and its handler runs with its argument; then delivery
unfoldable pub fires : Fired → Script
fires t =
    updates 0 (update.Clock t.due) >> updates t.owner (update.Fired t.id) >> say (item.Timer t.owner t.id)
    >> handles t.owner t.handler t.arg >> deliver

abbrev pub fires_if : Option Fired → Script
fires_if None = nothing
fires_if (Some t) = fires t

-- the run goes on, and a timer is due
abbrev pub has_due : ℕ → WorldState → Bool
has_due target s = not (is_over s.run) && is_some (due_by target s.history)

unfoldable pub fires_first : ℕ → Script
fires_first target = by_history (λ h. fires_if (due_by target h))

-- While a timer is due by the target, the first of them fires. Each turn takes a step at least, or finds that none is left.
unfoldable pub fires_all : ℕ → Script
fires_all target = by_run (λ run. while_at_most (run.left + 1) (has_due target) (fires_first target))

-- Then the clock becomes the target.
unfoldable pub ticks_to : ℕ → Script
ticks_to target = fires_all target >> unless_over (updates 0 (update.Clock target))

-- `tick N`: refused where the clock would pass 2,000,000,000
unfoldable pub tick : ℕ → Script
tick n = by_history (λ h. given (ltb 2000000000 (clock_of h + n)) (say item.TickRefused) (ticks_to (clock_of h + n)))
