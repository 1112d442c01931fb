-- All events, the run of a scenario, and what it prints.
-- Here: takes, event, ends, whole, text_of
use Rattle.std.specs.Prelude.{ℕ, ◌-◌, Bool, true, false, List, [], ◌∷◌, take, ℤ}
use Rattle.checked_tree.specs.declared.units.CheckedUnit.{CheckedUnit}
use Rattle.scenario.specs.declared.event.Event.{Event}
use Rattle.scenario.specs.declared.event.Event.TheVariants.{Load, Restart, Unload, Call, Run, Finish, Irq, Tick, Work, Answer, Kernel, Show}
use Rattle.run_report.specs.declared.item.Item.{Item}
use Rattle.run_report.specs.declared.item.Item.TheVariants as item
use Rattle.run_report.specs.Lines.{print}
use Rattle.world_core.specs.declared.run_state.RunState.{RunState}
use Rattle.world_core.specs.WorldState.{WorldState, Plan, first_world}
use Rattle.world_core.specs.Script.{Script, nothing, say, by_plan, by_run, does, unless_over, ◌>>◌}
use Rattle.world_core.specs.Showing.{show}
use Rattle.world_core.specs.Delivering.{deliver, irq}
use Rattle.world_core.specs.Loading.{load, restart, unload, call}
use Rattle.world_core.specs.Tasks.{run, finish}
use Rattle.world_core.specs.Clock.{tick}
use Rattle.world_core.specs.Inputs.{work, answer, kernel}
use Rattle.world_core.specs.Restarting.{restarts}

-- What the line of an event does.
abbrev pub takes : Event → Script
takes (Load driver task restarts) = load driver task restarts
takes (Restart driver task) = restart driver task
takes (Unload driver) = unload driver
takes (Call driver task name values n) = call driver task name (take n values)
takes (Run task n) = run task n
takes (Finish task) = finish task
takes (Irq line) = irq line
takes (Tick n) = tick n
takes (Work n) = work n
takes (Answer port first n) = answer port first n
takes (Kernel e) = kernel e
takes Show = show

-- An event: its line, then delivery, then the restarts that are due. Where the run is over it does nothing.
unfoldable pub event : Event → Script
event e = unless_over (takes e >> deliver >> restarts)

-- The events of a scenario, in order.
abbrev pub events : List Event → Script
events [] = nothing
events (e ∷ es) = event e >> events es

-- a line that tells of a failure, or of a step without a meaning
abbrev pub is_failure : Item → Bool
is_failure (item.Failed who kind line) = true
is_failure (item.Wild who line) = true
is_failure _ = false

-- `bound N` where the bound stopped the run, else `end N`; N is the number of steps taken
abbrev pub end_item : Bool → ℕ → Item
end_item true taken = item.Bound taken
end_item false taken = item.End taken

unfoldable pub ends : Script
ends = by_plan (λ plan. by_run (λ state. say (end_item state.is_stopped (plan.bound - state.left))))

-- The whole run.
abbrev pub whole : List Event → Script
whole es = events es >> ends

-- what a run of these drivers prints, with the events and answers of a scenario of this version, and the bound
abbrev pub items_of : List CheckedUnit → ℕ → List ℤ → List Event → ℕ → List Item
items_of drivers version answers es bound = (does (whole es) (first_world drivers version answers bound)).said

abbrev pub text_of : List CheckedUnit → ℕ → List ℤ → List Event → ℕ → List ℕ
text_of drivers version answers es bound = print (items_of drivers version answers es bound)
