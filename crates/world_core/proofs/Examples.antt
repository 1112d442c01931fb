-- Runs in which no driver takes a step, computed: what each line of a scenario prints, its refusals in their order, and the bound.
use Rattle.std.specs.Prelude.{◌≡◌, ℕ, List, [], ◌∷◌, ◌++◌, ℤ, pos, negsuc, Option, Some, None, replicate, refl, codes}
use Rattle.sd_base.specs.declared.actors.Who.{Who}
use Rattle.scenario.specs.declared.event.Event.{Event}
use Rattle.scenario.specs.declared.event.Event.TheVariants.{Load, Restart, Unload, Call, Run, Finish, Irq, Tick, Work, Answer, Kernel, Show}
use Rattle.scenario.specs.declared.event.KernelEvent.TheVariants as kernel_event
use Rattle.kernel_tables.specs.declared.row.Row.TheVariants as row
use Rattle.run_report.specs.declared.item.Item.{Item}
use Rattle.run_report.specs.declared.item.Item.TheVariants as item
use Rattle.run_report.specs.declared.item.Order.TheVariants as order
use Rattle.run_report.specs.declared.item.Obstacle.TheVariants as obstacle
use Rattle.world_core.specs.Events.{items_of}
use Rattle.world_core.proofs.Computing.{computing}
use Rattle.world_core.proofs.Units.{unit, prints_seven}

abbrev at : ℕ → ℕ → Who
at owner task = record { owner = owner; task = task }

-- `call dK T NAME V*`, with its values in eight places
abbrev calls : ℕ → ℕ → List ℕ → List ℤ → ℕ → Event
calls driver task name values n = Call driver task name (values ++ replicate 8 (pos 0)) n

-- what a run of one driver prints
abbrev prints : List Event → List Item
prints es = items_of (prints_seven ∷ []) 1 [] es 100000

abbrev declined : Item → List Item
declined x = x ∷ item.End 0 ∷ []

-- a driver of no bytes has no `init`
no_init : items_of (unit [] ∷ []) 1 [] (Load 1 1 0 ∷ []) 100000
    ≡ item.Declined 1 order.Load obstacle.NoInit ∷ item.End 0 ∷ []
unfolding computing
no_init = refl

-- a load is refused where the driver is loaded
load_refused : prints (Load 1 1 0 ∷ Load 1 2 0 ∷ [])
    ≡ item.Loaded 1 ∷ item.Declined 1 order.Load obstacle.Loaded ∷ item.End 0 ∷ []
unfolding computing
load_refused = refl

-- and where the task has an activity
load_busy : items_of (prints_seven ∷ prints_seven ∷ []) 1 [] (Load 1 1 0 ∷ Load 2 1 0 ∷ []) 100000
    ≡ item.Loaded 1 ∷ item.Declined 2 order.Load obstacle.Busy ∷ item.End 0 ∷ []
unfolding computing
load_busy = refl

-- a restart is of a driver that has failed alone
restart_refused : prints (Restart 1 1 ∷ Load 1 1 0 ∷ Restart 1 2 ∷ [])
    ≡ item.Declined 1 order.Restart obstacle.Absent ∷ item.Loaded 1 ∷ item.Declined 1 order.Restart obstacle.Loaded ∷ item.End 0 ∷ []
unfolding computing
restart_refused = refl

-- an unload is refused while an activity of the driver is live
unload_refused : prints (Unload 1 ∷ Load 1 1 0 ∷ Unload 1 ∷ [])
    ≡ item.Declined 1 order.Unload obstacle.Absent ∷ item.Loaded 1 ∷ item.Declined 1 order.Unload obstacle.Busy ∷ item.End 0 ∷ []
unfolding computing
unload_refused = refl

-- the obstacles of a call in their order: no such driver, no such function, a wrong number of values, a task that is live
call_refused : prints (calls 1 1 (codes "init") [] 0 ∷ Load 1 1 0 ∷ calls 1 1 (codes "nope") [] 0 ∷ calls 1 1 (codes "init")
    (pos 3 ∷ []) 1 ∷ calls 1 1 (codes "init") [] 0 ∷ [])
    ≡ item.Declined 1 order.Call obstacle.Absent ∷ item.Loaded 1 ∷ item.Declined 1 order.Call obstacle.NoFunction ∷ item.Declined 1
    order.Call obstacle.Arguments ∷ item.Declined 1 order.Call obstacle.Busy ∷ item.End 0 ∷ []
unfolding computing
call_refused = refl

-- a task without an activity is idle, however many steps it is to take
idle : prints (Run 3 5 ∷ Run 3 0 ∷ Finish 8 ∷ [])
    ≡ item.Idle 3 ∷ item.Idle 3 ∷ item.Idle 8 ∷ item.End 0 ∷ []
unfolding computing
idle = refl

-- no step is needed for a run of none
no_step : prints (Load 1 1 0 ∷ Run 1 0 ∷ [])
    ≡ item.Loaded 1 ∷ item.End 0 ∷ []
unfolding computing
no_step = refl

-- where a step is needed and none may be taken the run stops, and no later event is taken
bound_of_none : items_of (prints_seven ∷ []) 1 [] (Load 1 1 0 ∷ Finish 1 ∷ Show ∷ []) 0
    ≡ item.Loaded 1 ∷ item.Bound 0 ∷ []
unfolding computing
bound_of_none = refl

-- a line that nobody holds is served at once
nobody : prints (Irq 5 ∷ [])
    ≡ item.IrqNobody 5 ∷ item.End 0 ∷ []
unfolding computing
nobody = refl

-- the kernel's line has no handler
kernel_line : prints (Kernel (kernel_event.Line (pos 5)) ∷ Irq 5 ∷ Show ∷ [])
    ≡ item.Reply (pos 0) ∷ item.Irq 5 0 ∷ item.Tables ∷ item.Row (row.Line (pos 5) 0 0) [] ∷ item.Row (row.Clock 0) [] ∷ item.End 0 ∷ []
unfolding computing
kernel_line = refl

-- what the kernel is replied: it holds the line already; a wrong number; it does not hold the lock; a lock that is held; eight holds are
-- the most
kernel_replies : prints (Kernel (kernel_event.Line (pos 5)) ∷ Kernel (kernel_event.Line (pos 5)) ∷ Kernel (kernel_event.Line
    (pos 64)) ∷ Kernel (kernel_event.Unlock (pos 3)) ∷ Kernel (kernel_event.Lock (pos 3)) ∷ Kernel (kernel_event.Lock (pos 3)) ∷ Kernel
    (kernel_event.Unlock (pos 3)) ∷ replicate 9 (Kernel (kernel_event.Hold (pos 2))))
    ≡ item.Reply (pos 0) ∷ item.Reply (negsuc 15) ∷ item.Reply (negsuc 21) ∷ item.Reply (negsuc 21) ∷ item.Reply (pos 0) ∷ item.Reply
    (negsuc 15) ∷ item.Reply (pos 0) ∷ item.Reply (pos 0) ∷ item.Reply (pos 0) ∷ item.Reply (pos 0) ∷ item.Reply (pos 0) ∷ item.Reply
    (pos 0) ∷ item.Reply (pos 0) ∷ item.Reply (pos 0) ∷ item.Reply (pos 0) ∷ item.Reply (negsuc 27) ∷ item.End 0 ∷ []
unfolding computing
kernel_replies = refl

-- the clock goes on, and no further than 2,000,000,000
ticks : prints (Tick 10 ∷ Tick 1000000 ∷ Show ∷ [])
    ≡ item.Tables ∷ item.Row (row.Clock 1000010) [] ∷ item.End 0 ∷ []
unfolding computing
ticks = refl

-- work that is not there
no_work : prints (Work 256 ∷ [])
    ≡ item.End 0 ∷ []
unfolding computing
no_work = refl
