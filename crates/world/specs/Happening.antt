-- An event as the code carries it out, which has the scenario's answers from its caller and not from the plan.
-- Here: takes_from, happens_from
use Rattle.std.specs.Prelude.{List, take, drop, ℤ}
use Rattle.scenario.specs.declared.event.Event.{Event}
use Rattle.scenario.specs.declared.event.Event.TheVariants.{Answer}
use Rattle.world_core.specs.Script.{Script, on_devices, unless_over, ◌>>◌}
use Rattle.world_core.specs.Inputs.{answered}
use Rattle.world_core.specs.Delivering.{deliver}
use Rattle.world_core.specs.Restarting.{restarts}
use Rattle.world_core.specs.Events.{takes}

-- what the line of an event does, where the scenario has these answers
abbrev pub takes_from : List ℤ → Event → Script
takes_from answers (Answer port first n) = on_devices (answered port (take n (drop first answers)))
takes_from answers e = takes e

-- the event
unfoldable pub happens_from : List ℤ → Event → Script
happens_from answers e = unless_over (takes_from answers e >> deliver >> restarts)
