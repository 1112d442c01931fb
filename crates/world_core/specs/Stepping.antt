-- A step of a task: one statement of its activity with all its checks, or one try of a lock.
-- Here: step, goes_on, runs_to_end
use Rattle.std.specs.Prelude.{ℕ, ◌+◌, ◌-◌, Bool, true, false, not, ◌&&◌, cond, List, ℤ, Option, Some, None, Ok, Err}
use Rattle.std.specs.List.{list_any}
use Rattle.sd_base.specs.declared.actors.Who.{Who}
use Rattle.sd_base.specs.declared.kinds.FailKind.{FailKind}
use Rattle.sd_base.specs.declared.kinds.FailKind.TheVariants as fail
use Rattle.sd_base.specs.History.{History, live_of, mask_key, is_of}
use Rattle.share_table.specs.Locks.{takes_lock}
use Rattle.byte_memory.specs.Tested.{Memory}
use Rattle.checked_tree.specs.declared.stops.Stop.TheVariants.{Failed, Wild}
use Rattle.checked_tree.specs.Outcome.{Outcome}
use Rattle.checked_tree.specs.Step as tree
use Rattle.checked_tree.specs.Step.{Activity, Next, Went, Wants, Ended}
use Rattle.run_report.specs.declared.item.Item.{Item}
use Rattle.run_report.specs.declared.item.Item.TheVariants as item
use Rattle.world_core.specs.declared.run_state.RunState.{RunState}
use Rattle.world_core.specs.WorldState.{WorldState, Plan, Running, unit_of, memory_of, with_memory, activity_of, with_activity, is_live, who_in, is_over, is_spent}
use Rattle.world_core.specs.Script.{Script, nothing, say, on_run, on_tasks, on_memories, by_plan, by_run, by_history, by_tasks, by_memories, given, while_at_most, ◌>>◌}
use Rattle.world_core.specs.Failing.{fails, strays}
use Rattle.world_core.specs.Calling.{asks}

-- ---- `dK tT done V`, `dK tT done`

abbrev pub done_item : Who → Option ℤ → Item
done_item who None = item.Done who
done_item who (Some v) = item.Answered who v

-- by what an activity fails that ends: it holds a lock, or its mask
abbrev pub left_held : History → Who → Option FailKind
left_held h who =
    cond (list_any (takes_lock who) (live_of h)) (Some fail.Held)
    (cond (list_any (is_of who.owner (mask_key who.task)) (live_of h)) (Some fail.Masked)
    None)

abbrev pub ends_by : Who → ℕ → Option ℤ → Option FailKind → Script
ends_by who line result (Some kind) = fails who kind line
ends_by who line result None = on_tasks (with_activity who.task None) >> say (done_item who result)

-- ---- the statement

-- an activity goes on with these frames and this memory
abbrev pub goes_on_with : Who → Activity → Memory → Script
goes_on_with who frames memory =
    on_tasks (with_activity who.task (Some (record {
      owner = who.owner;
      frames =
          frames;
    }))) >> on_memories (with_memory who.owner memory.bytes)

-- What a statement at this line comes to.
abbrev pub comes_to : Who → ℕ → Outcome Next → Script
comes_to who line (Ok (Went frames memory)) = goes_on_with who frames memory
comes_to who line (Ok (Wants frames call)) = asks who line call
comes_to who line (Ok (Ended result)) = by_history (λ h. ends_by who line result (left_held h who))
comes_to who line (Err (Failed at kind)) = fails who kind at
comes_to who line (Err Wild) = strays who line

-- the next statement of an activity; a task without one does nothing
abbrev pub acts_as : Plan → History → List (List ℕ) → ℕ → Option Running → Script
acts_as plan h memories task None = nothing
acts_as plan h memories task (Some r) =
    comes_to (who_in task r) (tree.line r.frames) (tree.step (unit_of plan r.owner) r.frames (memory_of h memories r.owner))

unfoldable pub acts : ℕ → Script
acts task = by_plan (λ plan. by_history (λ h. by_memories (λ memories. by_tasks (λ tasks. acts_as plan h memories task
    (activity_of tasks task)))))

-- ---- the step

abbrev pub stopped : RunState → RunState
stopped run = record run { is_stopped = true }

abbrev pub one_taken : RunState → RunState
one_taken run = record run { left = run.left - 1 }

-- A step of a task. Where none is left the run stops; a step that fails counts too.
unfoldable pub step : ℕ → Script
step task = by_run (λ run. given (is_spent run) (on_run stopped) (on_run one_taken >> acts task))

-- the run goes on, and the task has an activity
abbrev pub goes_on : ℕ → WorldState → Bool
goes_on task s = not (is_over s.run) && is_live s.tasks task

-- The task runs to its end, its failure or the bound. The last turn is the one that finds no step left.
unfoldable pub runs_to_end : ℕ → Script
runs_to_end task = by_run (λ run. while_at_most (run.left + 1) (goes_on task) (step task))
