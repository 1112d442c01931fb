-- A handler: a function of a driver that runs whole on task 0, between two steps of tasks.
-- Here: begun, handles
use Rattle.std.specs.Prelude.{ℕ, List, [], ◌∷◌, ℤ, Option, Some, None}
use Rattle.checked_tree.specs.Step.{Activity, started}
use Rattle.world_core.specs.WorldState.{Plan, Running, Tasks, unit_of, with_activity}
use Rattle.world_core.specs.Script.{Script, on_tasks, by_plan, ◌>>◌}
use Rattle.world_core.specs.Stepping.{runs_to_end}

-- a driver's activity, where it has the function
abbrev pub running : ℕ → Option Activity → Option Running
running owner None = None
running owner (Some frames) = Some (record { owner = owner; frames = frames })

-- a function of a driver begins on a task, each argument converted to its parameter's type
abbrev pub begun : Plan → ℕ → ℕ → ℕ → List ℤ → Tasks → Tasks
begun plan task owner function arguments tasks = with_activity task (running owner (started (unit_of plan owner) function arguments)) tasks

-- A handler runs with its argument to its end, its failure or the bound. Nothing runs for the kernel, which has no function.
unfoldable pub handles : ℕ → ℕ → ℤ → Script
handles owner function argument = by_plan (λ plan. on_tasks (begun plan 0 owner function (argument ∷ []))) >> runs_to_end 0
