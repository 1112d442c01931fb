-- A kernel call of an activity: what the table of kernel calls says that it comes to is told, made and answered.
-- Here: asks
use Rattle.std.specs.Prelude.{ℕ, true, List, ℤ, pos, Option, Some, None}
use Rattle.std.specs.Option.{option_map}
use Rattle.sd_base.specs.declared.actors.Who.{Who}
use Rattle.sd_base.specs.declared.history.Update.{Update}
use Rattle.sd_base.specs.History.{History}
use Rattle.device_model.specs.Scripted.{Scripted}
use Rattle.checked_tree.specs.declared.kernel.Answer.{Answer}
use Rattle.checked_tree.specs.declared.kernel.Answer.TheVariants.{Number, Pointer as Block}
use Rattle.checked_tree.specs.declared.kernel.KernelCall.{KernelCall}
use Rattle.checked_tree.specs.Step.{answered}
use Rattle.wrappers.specs.declared.call_out.CallOut.{CallOut}
use Rattle.wrappers.specs.declared.call_out.CallOut.TheVariants.{Reply, Pointer, Said, Blocked, Fail, Wild}
use Rattle.wrappers.specs.declared.call_out.Saying.{Saying}
use Rattle.wrappers.specs.declared.call_out.Saying.TheVariants.{Print, Text, Out}
use Rattle.wrappers.specs.declared.call_out.TextBytes.{TextBytes}
use Rattle.wrappers.specs.Served.{Served}
use Rattle.wrappers.specs.Rows.{served, port_taken, without_answer}
use Rattle.run_report.specs.declared.item.Item.{Item}
use Rattle.run_report.specs.declared.item.Item.TheVariants as item
use Rattle.run_report.specs.declared.item.Excerpt.{Excerpt}
use Rattle.world_core.specs.declared.run_state.RunState.{RunState}
use Rattle.world_core.specs.WorldState.{Plan, Running, Tasks, memory_of, activity_of, with_activity}
use Rattle.world_core.specs.Script.{Script, say, on_run, on_tasks, on_devices, by_plan, by_history, by_memories, by_devices, updates_if, ◌>>◌}
use Rattle.world_core.specs.Failing.{fails, strays}

-- ---- `dK tT print V`, `dK tT text "S"`, `dK tT out P V`

abbrev pub excerpt : TextBytes → Excerpt
excerpt text = record { bytes = text.bytes; len = text.len; more = text.more }

abbrev pub said_item : Who → Saying → Item
said_item who (Print v) = item.Print who v
said_item who (Text text) = item.Text who (excerpt text)
said_item who (Out port v) = item.Out who port v

-- ---- the answer

-- an activity whose kernel call is answered
abbrev pub with_answer : Answer → Running → Running
with_answer reply r = record r { frames = answered r.frames reply }

-- the answer ends the statement that asked
abbrev pub task_answered : ℕ → Answer → Tasks → Tasks
task_answered task reply tasks = with_activity task (option_map (with_answer reply) (activity_of tasks task)) tasks

-- the task that runs waits for a lock: the statement is tried again
abbrev pub waits_for_lock : RunState → RunState
waits_for_lock run = record run { is_blocked = true }

-- What is done by what the call comes to, with the update that the history gains and the port whose oldest answer is taken, if any. A call
-- that fails, or waits, changes nothing.
abbrev pub told : Who → ℕ → Option Update → Option ℕ → CallOut → Script
told who line update port (Reply n) =
    updates_if who.owner update >> on_devices (without_answer port) >> on_tasks (task_answered who.task (Number n))
told who line update port (Pointer p) = updates_if who.owner update >> on_tasks (task_answered who.task (Block p))
told who line update port (Said saying) = say (said_item who saying) >> on_tasks (task_answered who.task (Number (pos 0)))
told who line update port (Blocked lock) = say (item.Blocked who lock) >> on_run waits_for_lock
told who line update port (Fail kind) = fails who kind line
told who line update port Wild = strays who line

abbrev pub told_as : Who → ℕ → Option ℕ → Served → Script
told_as who line port served = told who line served.update port served.out

-- an activity that stands at this line calls the kernel
unfoldable pub asks : Who → ℕ → KernelCall → Script
asks who line call = by_plan (λ plan. by_history (λ h. by_memories (λ memories. by_devices (λ devices.
    told_as who line (port_taken h who call) (served plan.share h (memory_of h memories who.owner) devices who call)))))
