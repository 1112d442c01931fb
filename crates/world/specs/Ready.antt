-- A world in which events take place, and what is read of it between them: the line, the timer, the item of work and the driver that is next.
-- Here: IsReady, NextLine, AreHolders, serves_four, serves_by, tells_waiting, NextTimer, NextWork, MayGoOn, AreDueSet, NextDriver
use Rattle.std.specs.Prelude.{◌≡◌, ℕ, ◌+◌, ◌≤◌, ◌<◌, Bool, true, false, not, ◌&&◌, ◌||◌, ltb, List, get_or, slice_get, Option, None, Some}
use Rattle.std.specs.List.{list_any, position_or_len}
use Rattle.claim_table.specs.declared.claims.Holder.{Holder}
use Rattle.timer_table.specs.declared.fired.Fired.{Fired}
use Rattle.share_table.specs.declared.queue.Work.{Work}
use Rattle.share_table.specs.Table.{queue_of}
use Rattle.checked_tree.specs.declared.units.CheckedUnit.{CheckedUnit}
use Rattle.run_report.specs.declared.item.Item.TheVariants as item
use Rattle.world_core.specs.declared.run_state.DriverState.{DriverState}
use Rattle.world_core.specs.declared.run_state.RunState.{RunState}
use Rattle.world_core.specs.WorldState.{WorldState, is_over, not_loaded}
use Rattle.world_core.specs.Script.{Script, nothing, say, by_run, given, unless_over, ◌>>◌}
use Rattle.world_core.specs.Delivering.{can_deliver, least_waiting, serves, still_waits}
use Rattle.world_core.specs.Clock.{due_by, has_due}
use Rattle.world_core.specs.Inputs.{has_work}
use Rattle.world_core.specs.Tasks.{may_go_on}
use Rattle.world_core.specs.Restarting.{least_due}
use Rattle.driver_host.specs.declared.ground.Ground.{Ground}
use Rattle.driver_host.specs.Printing.{Out}
use Rattle.driver_host.specs.Grounds.{IsGround}
use Rattle.world.specs.declared.live.Live.{Live}
use Rattle.world.specs.declared.delivering.Holders.{Holders}
use Rattle.world.specs.Standing.{Here, IsWorld}
use Rattle.world.specs.Calm.{IsCalm}

-- it stands for a world whose task 0 is idle unless the run is over, and four owners at most hold one line
pub record IsReady (units : List CheckedUnit) (at : Here) : Type 0 where
  pub calm : IsCalm units at
  pub share : at.live.ground.host.kernel.kernel.claims.share ≤ 4

-- ---- lines

abbrev pub IsNextLine : WorldState → Option ℕ → Type 0
IsNextLine s None = can_deliver s ≡ false
IsNextLine s (Some line) = (can_deliver s ≡ true) × (line ≡ least_waiting s.run)

-- the line that is served next in every world for which it stands
pub record NextLine (ground : Ground) (line : Option ℕ) : Type 0 where
  pub to : (o : Out) (first : Option (List ℕ)) (faults : ℕ) (s : WorldState) → IsGround ground o first faults s → IsNextLine s line

-- the first four of these holders
abbrev pub AreHolders : Holders → List Holder → Type 0
AreHolders four holders =
    (four.first ≡ slice_get holders 0) × (four.second ≡ slice_get holders 1) × (four.third ≡ slice_get holders 2)
    × (four.fourth ≡ slice_get holders 3)

-- a holder serves the line, if there is one and the run goes on
abbrev pub serves_if : ℕ → Option Holder → Script
serves_if line None = nothing
serves_if line (Some holder) = unless_over (serves line holder)

-- the four serve it, in order
abbrev pub serves_four : ℕ → Holders → Script
serves_four line four = serves_if line four.first >> serves_if line four.second >> serves_if line four.third >> serves_if line four.fourth

-- `irq L nobody` where there is no first one
abbrev pub served_from : ℕ → Holders → Option Holder → Script
served_from line four None = say (item.IrqNobody line)
served_from line four (Some holder) = serves_four line four

abbrev pub serves_by : ℕ → Holders → Script
serves_by line four = served_from line four four.first

-- `irq L waits`, where it does
abbrev pub tells_waiting : ℕ → Script
tells_waiting line = by_run (λ run. given (still_waits line run) (say (item.IrqWaits line)) nothing)

-- ---- timers

abbrev pub IsNextTimer : ℕ → WorldState → Option Fired → Type 0
IsNextTimer moment s None = has_due moment s ≡ false
IsNextTimer moment s (Some t) = (has_due moment s ≡ true) × (due_by moment s.history ≡ Some t) × (0 < t.owner) × (t.owner ≤ 4)
    × (t.due ≤ moment)

-- the timer that fires next, which is a driver's
pub record NextTimer (ground : Ground) (moment : ℕ) (timer : Option Fired) : Type 0 where
  pub to : (o : Out) (first : Option (List ℕ)) (faults : ℕ) (s : WorldState) → IsGround ground o first faults s → IsNextTimer moment s timer

-- ---- work

abbrev pub IsNextWork : WorldState → Option Work → Type 0
IsNextWork s None = has_work s ≡ false
IsNextWork s (Some w) = (has_work s ≡ true) × (slice_get (queue_of s.history) 0 ≡ Some w) × (0 < w.owner) × (w.owner ≤ 4)

-- the item that runs next, which is a driver's
pub record NextWork (ground : Ground) (work : Option Work) : Type 0 where
  pub to : (o : Out) (first : Option (List ℕ)) (faults : ℕ) (s : WorldState) → IsGround ground o first faults s → IsNextWork s work

-- ---- tasks

-- whether a task may go on, in every world for which it stands
pub record MayGoOn (live : Live) (task : ℕ) (answer : Bool) : Type 0 where
  pub to : (units : List CheckedUnit) (o : Out) (first : Option (List ℕ)) (faults : ℕ) (s : WorldState) →
      IsWorld units (record { live = live; told = o }) first faults s → may_go_on task s ≡ answer

-- ---- restarts

-- a driver that is due, or that will be where it fails, has a task to be started anew on
abbrev pub HasLoadTask : DriverState → Type 0
HasLoadTask d = ltb 0 d.restarts || d.is_due ≡ true → (1 ≤ d.task) × (d.task ≤ 8)

pub record AreDueSet (run : RunState) : Type 0 where
  pub each : (k : ℕ) → HasLoadTask (get_or run.drivers k not_loaded)

-- a driver is due
abbrev pub some_due : List DriverState → Bool
some_due drivers = list_any (λ (d : DriverState). d.is_due) drivers

-- the number of the first of these drivers that is due
abbrev pub first_due : List DriverState → ℕ
first_due drivers = position_or_len (λ (d : DriverState). d.is_due) drivers + 1

-- the driver that is started anew next
abbrev pub NextDriver : RunState → Option ℕ → Type 0
NextDriver run None = not (is_over run) && some_due run.drivers ≡ false
NextDriver run (Some driver) = (not (is_over run) && some_due run.drivers ≡ true) × (driver ≡ least_due run) × (driver ≤ 4)
