-- `run T N` and `finish T`.
-- Here: rounds, run, finish
use Rattle.std.specs.Prelude.{ℕ, ◌+◌, Bool, false, not, ◌&&◌}
use Rattle.run_report.specs.declared.item.Item.TheVariants as item
use Rattle.world_core.specs.declared.run_state.RunState.{RunState}
use Rattle.world_core.specs.WorldState.{WorldState, is_live}
use Rattle.world_core.specs.Script.{Script, say, on_run, by_run, by_tasks, given, while_at_most, ◌>>◌}
use Rattle.world_core.specs.Stepping.{step, goes_on}
use Rattle.world_core.specs.Delivering.{deliver}

-- no lock was met yet
abbrev pub not_blocked : RunState → RunState
not_blocked run = record run { is_blocked = false }

-- the run goes on, and the task has an activity that has met no lock of another
abbrev pub may_go_on : ℕ → WorldState → Bool
may_go_on task s = goes_on task s && not s.run.is_blocked

-- a step of the task, then delivery
unfoldable pub round : ℕ → Script
round task = step task >> deliver

-- steps of the task, until n were taken, its activity ended, is blocked or gone
unfoldable pub rounds : ℕ → ℕ → Script
rounds task n = on_run not_blocked >> while_at_most n (may_go_on task) (round task)

-- `run T N`: an idle task prints `tT idle`
unfoldable pub run : ℕ → ℕ → Script
run task n = by_tasks (λ tasks. given (is_live tasks task) (rounds task n) (say (item.Idle task)))

-- `finish T`: the same without a number. One turn more than there are steps is the one that finds none left.
unfoldable pub finish : ℕ → Script
finish task = by_run (λ state. run task (state.left + 1))
