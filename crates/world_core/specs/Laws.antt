-- What the laws of the world say.
-- Here: IsTakenBack, IsFailure, IsLoadState, IsLawfulWorld, Tells, Fate, IsKept, IsShaped, Grows, and the laws themselves
use Rattle.std.specs.Prelude.{◌≡◌, ◌≢◌, ℕ, ◌+◌, ◌<◌, ◌≤◌, Bool, true, false, eqb, List, [], ◌∷◌, ◌++◌, length, ℤ, Option, Some, None}
use Rattle.std.specs.List.{list_any}
use Rattle.sd_base.specs.declared.actors.Who.{Who}
use Rattle.sd_base.specs.declared.kinds.FailKind.{FailKind}
use Rattle.sd_base.specs.History.{History, Without}
use Rattle.sd_base.specs.Allowed.{IsLawful, IsProper}
use Rattle.kernel_tables.specs.TableRows.{tables_of}
use Rattle.checked_tree.specs.declared.units.CheckedUnit.{CheckedUnit}
use Rattle.checked_tree.specs.declared.units.ImageBlock.{ImageBlock}
use Rattle.checked_tree.specs.Step.{started}
use Rattle.scenario.specs.declared.event.Event.{Event}
use Rattle.run_report.specs.declared.item.Item.{Item}
use Rattle.run_report.specs.declared.item.Item.TheVariants as item
use Rattle.run_report.specs.Tables.{table_items}
use Rattle.world_core.specs.declared.run_state.RunState.{RunState}
use Rattle.world_core.specs.WorldState.{WorldState, Plan, unit_of, bytes_of, empty_arena, activity_of, is_owned, has_activity, driver_of, is_over, is_spent, is_masked, first_world, share_of}
use Rattle.world_core.specs.Script.{does, updated, without_driver}
use Rattle.world_core.specs.Showing.{names_of}
use Rattle.world_core.specs.Failing.{undo_items, fails, failed}
use Rattle.world_core.specs.Stepping.{stopped, step, goes_on, runs_to_end}
use Rattle.world_core.specs.Handling.{running}
use Rattle.world_core.specs.Delivering.{with_waiting, is_waiting, some_waits, deliver, can_deliver, irq}
use Rattle.world_core.specs.Loading.{image_grant, image_memory, init_of, loads}
use Rattle.world_core.specs.Tasks.{run}
use Rattle.world_core.specs.Events.{event, events, whole, is_failure}

-- ---- a failure

-- a driver was taken back: it holds nothing, nothing of it runs, its memory is empty; of everything else nothing has changed
pub record IsTakenBack (owner : ℕ) (before after : WorldState) : Type 0 where
  pub history : 1 ≤ owner → after.history ≡ Without before.history owner
  pub activities : has_activity after.tasks owner ≡ false
  pub other_activities : (task : ℕ) → is_owned owner (activity_of before.tasks task) ≡ false →
      activity_of after.tasks task ≡ activity_of before.tasks task
  pub memory : 1 ≤ owner → owner ≤ length before.memories → bytes_of after.memories owner ≡ empty_arena
  pub other_memories : (other : ℕ) → other ≢ owner → bytes_of after.memories other ≡ bytes_of before.memories other
  pub other_drivers : (other : ℕ) → other ≢ owner → driver_of after.run other ≡ driver_of before.run other
  pub waiting : after.run.waiting ≡ before.run.waiting
  pub left : after.run.left ≡ before.run.left
  pub devices : after.devices ≡ before.devices
  pub plan : after.plan ≡ before.plan

-- a step fails
pub record IsFailure (who : Who) (kind : FailKind) (line : ℕ) (before after : WorldState) : Type 0 where
  pub taken_back : IsTakenBack who.owner before after
  pub driver : 1 ≤ who.owner → who.owner ≤ length before.run.drivers →
      driver_of after.run who.owner ≡ failed (driver_of before.run who.owner)
  pub flag : after.run.has_failed ≡ true
  pub said : after.said ≡
      before.said ++ item.Failed who kind line ∷ []
      ++ undo_items (names_of before.plan) who.owner before.history
      ++ table_items (names_of before.plan) (tables_of (without_driver who.owner before.history))

-- after a failure the history is the old one without that driver's entries, its memory is all 0, its activities are gone, and the others'
-- are untouched
abbrev pub FailuresAreUndone : Type 0
FailuresAreUndone = (who : Who) (kind : FailKind) (line : ℕ) (s : WorldState) → IsFailure who kind line s (does (fails who kind line) s)

-- ---- the load state

-- the history with the grants of an image, in order
abbrev pub image_granted : ℕ → ℕ → List ImageBlock → History → History
image_granted share driver [] h = h
image_granted share driver (b ∷ bs) h = image_granted share driver bs (updated share driver (image_grant b) h)

pub record IsLoadState (plan : Plan) (driver task : ℕ) (before after : WorldState) : Type 0 where
  pub memory : 1 ≤ driver → driver ≤ length before.memories → bytes_of after.memories driver ≡ image_memory (unit_of plan driver)
  pub other_memories : (other : ℕ) → other ≢ driver → bytes_of after.memories other ≡ bytes_of before.memories other
  pub grants : after.history ≡ image_granted before.plan.share driver (unit_of plan driver).image (without_driver driver before.history)
  pub init : (f : ℕ) → init_of (unit_of plan driver) ≡ Some f → task < length before.tasks →
      activity_of after.tasks task ≡ running driver (started (unit_of plan driver) f [])
  pub other_tasks : (other : ℕ) → other ≢ task → activity_of after.tasks other ≡ activity_of before.tasks other

-- a load and a restart begin from the load state
abbrev pub LoadsBeginFromTheImage : Type 0
LoadsBeginFromTheImage = (plan : Plan) (driver task : ℕ) (s : WorldState) → IsLoadState plan driver task s (does (loads plan driver task) s)

-- ---- every world of a run

-- items, and others after them
pub record Grows (before after : List Item) : Type 0 where
  pub rest : List Item
  pub is : after ≡ before ++ rest

-- each entry was one that its owner may ask for, and was allowed by the entries before it
pub record IsLawfulWorld (share : ℕ) (h : History) : Type 0 where
  pub lawful : IsLawful share h
  pub proper : IsProper h

-- the world at the end of a run
abbrev pub end_of : List CheckedUnit → ℕ → List ℤ → List Event → ℕ → WorldState
end_of drivers version answers es bound = does (whole es) (first_world drivers version answers bound)

abbrev pub HistoriesAreLawful : Type 0
HistoriesAreLawful = (drivers : List CheckedUnit) (version : ℕ) (answers : List ℤ) (es : List Event) (bound : ℕ) →
    IsLawfulWorld (share_of version) (end_of drivers version answers es bound).history

-- the flag of the world tells of what was printed
abbrev pub Tells : WorldState → Type 0
Tells s = s.run.has_failed ≡ list_any is_failure s.said

-- a driver has failed, or a step had no meaning, exactly where a line that says so stands among what was printed
abbrev pub FailuresAreTold : Type 0
FailuresAreTold = (drivers : List CheckedUnit) (version : ℕ) (answers : List ℤ) (es : List Event) (bound : ℕ) →
    Tells (end_of drivers version answers es bound)

-- nine tasks, a memory for each driver, four driver states, 64 lines, and no step is given back
pub record IsShaped (drivers bound : ℕ) (s : WorldState) : Type 0 where
  pub tasks : length s.tasks ≡ 9
  pub memories : length s.memories ≡ drivers
  pub states : length s.run.drivers ≡ 4
  pub lines : length s.run.waiting ≡ 64
  pub left : s.run.left ≤ bound

abbrev pub WorldsKeepTheirShape : Type 0
WorldsKeepTheirShape = (drivers : List CheckedUnit) (version : ℕ) (answers : List ℤ) (es : List Event) (bound : ℕ) →
    IsShaped (length drivers) bound (does (events es) (first_world drivers version answers bound))

-- ---- the bound

-- no event is taken once the run is over
abbrev pub NothingFollowsTheBound : Type 0
NothingFollowsTheBound = (es : List Event) (s : WorldState) → is_over s.run ≡ true → does (events es) s ≡ s

-- a handler that has to go on where no step is left stops the run, and nothing else happens
abbrev pub TheBoundStopsHandlers : Type 0
TheBoundStopsHandlers = (task : ℕ) (s : WorldState) → is_spent s.run ≡ true → goes_on task s ≡ true →
    does (runs_to_end task) s ≡ record s { run = stopped s.run }

-- where no line waits, a task that runs for N steps takes no more
abbrev pub RunsAreCounted : Type 0
RunsAreCounted = (task n : ℕ) (s : WorldState) → some_waits s.run ≡ false → s.run.left ≤ (does (run task n) s).run.left + n

-- ---- interrupts

-- under a mask nothing is delivered
abbrev pub MasksHoldInterruptsOff : Type 0
MasksHoldInterruptsOff = (s : WorldState) → is_masked s.history ≡ true → does deliver s ≡ s

-- a line that is raised under a mask waits, and no more
abbrev pub RaisedLinesWait : Type 0
RaisedLinesWait = (line : ℕ) (s : WorldState) → is_masked s.history ≡ true → is_over s.run ≡ false → line < length s.run.waiting →
    does (irq line) s ≡ record s { run = with_waiting line true s.run; said = s.said ++ item.IrqWaits line ∷ [] }

-- after delivery no line waits that could be served
abbrev pub DeliveryIsComplete : Type 0
DeliveryIsComplete = (s : WorldState) → length s.run.waiting ≡ 64 → can_deliver (does deliver s) ≡ false

-- the item tells that the line is served, by a holder or by nobody
abbrev pub is_served : ℕ → Item → Bool
is_served line (item.Irq l owner) = eqb l line
is_served line (item.IrqNobody l) = eqb l line
is_served line _ = false

-- what has become of a line that waited, since these items were printed
pub data Fate (line : ℕ) (run : RunState) (since : List Item) : Type 0 where
  ended : is_over run ≡ true → Fate line run since
  waits : is_waiting run line ≡ true → Fate line run since
  is_printed : list_any (is_served line) since ≡ true → Fate line run since

pub record IsKept (line : ℕ) (start : List Item) (s : WorldState) : Type 0 where
  pub since : List Item
  pub is : s.said ≡ start ++ since
  pub fate : Fate line s.run since

-- a line that waits is never lost: it waits until it is served, which is printed, unless the run is over
abbrev pub WaitingLinesAreNeverLost : Type 0
WaitingLinesAreNeverLost = (line : ℕ) (es : List Event) (s : WorldState) → is_waiting s.run line ≡ true →
    IsKept line s.said (does (events es) s)
