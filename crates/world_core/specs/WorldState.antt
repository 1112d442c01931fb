-- What a world is: the plan of the run, and all that changes in it. The words by which the definitions of events read and change its parts.
-- Here: WorldState, Plan, Running; unit_of, memory_of, activity_of, with_activity, with_memory, driver_of, with_driver, is_over, is_masked
use Rattle.std.specs.Prelude.{ℕ, zero, suc, ◌+◌, ◌-◌, Bool, true, false, not, ◌&&◌, ◌||◌, eqb, List, [], ◌∷◌, map, reverse, get_or, set, replicate, length, ℤ, Option, Some, None, is_some}
use Rattle.std.specs.List.{list_any}
use Rattle.sd_base.specs.declared.actors.Who.{Who}
use Rattle.sd_base.specs.History.{History, live_of}
use Rattle.sd_base.specs.Blocks.{Block, block_size, granted}
use Rattle.share_table.specs.Masks.{is_mask}
use Rattle.device_model.specs.Scripted.{Scripted}
use Rattle.byte_memory.specs.declared.tested.GrantedRange.{GrantedRange}
use Rattle.byte_memory.specs.Bytes.{zeros}
use Rattle.byte_memory.specs.Tested.{Memory}
use Rattle.checked_tree.specs.declared.units.CheckedUnit.{CheckedUnit}
use Rattle.checked_tree.specs.Step.{Activity}
use Rattle.run_report.specs.declared.item.Item.{Item}
use Rattle.world_core.specs.declared.run_state.Standing.{Standing}
use Rattle.world_core.specs.declared.run_state.Standing.TheVariants.{Absent, Loaded, Failed}
use Rattle.world_core.specs.declared.run_state.DriverState.{DriverState}
use Rattle.world_core.specs.declared.run_state.RunState.{RunState}

-- ---- what a world has

-- what is fixed before the run: the drivers' units, `d1` first, the scenario's list of device answers, how many owners may hold one line,
-- and the bound on steps
pub record Plan : Type 0 where
  pub drivers : List CheckedUnit
  pub answers : List ℤ
  pub share : ℕ
  pub bound : ℕ

-- an activity: the driver whose it is, and its frames
pub record Running : Type 0 where
  pub owner : ℕ
  pub frames : Activity

-- of each task from 0 to 8 its activity, if it has one; task 0 is that of handlers
abbrev pub Tasks : Type 0
Tasks = List (Option Running)

-- A world: the plan; how the drivers stand, the lines that wait and the steps left; the history of the kernel; the activities; the bytes of
-- each driver's memory; the answers that wait at ports; and the items printed so far, the oldest first.
pub record WorldState : Type 0 where
  pub plan : Plan
  pub run : RunState
  pub history : History
  pub tasks : Tasks
  pub memories : List (List ℕ)
  pub devices : Scripted
  pub said : List Item

-- ---- one thing for each driver, `d1` first

-- what there is for an owner; the kernel, which is 0, is no driver
abbrev pub of_owner : {A : Type 0} → A → List A → ℕ → A
of_owner none xs zero = none
of_owner none xs (suc k) = get_or xs k none

abbrev pub with_owner : {A : Type 0} → List A → ℕ → A → List A
with_owner xs zero x = xs
with_owner xs (suc k) x = set xs k x

-- a unit with no function, for who is no driver
abbrev pub no_unit : CheckedUnit
no_unit = record { functions = []; image = []; structs = []; elems = [] }

abbrev pub unit_of : Plan → ℕ → CheckedUnit
unit_of plan owner = of_owner no_unit plan.drivers owner

-- a driver that was never loaded
abbrev pub not_loaded : DriverState
not_loaded = record { standing = Absent; task = 0; restarts = 0; is_due = false }

abbrev pub driver_of : RunState → ℕ → DriverState
driver_of run owner = of_owner not_loaded run.drivers owner

abbrev pub with_driver : ℕ → DriverState → RunState → RunState
with_driver owner driver run = record run { drivers = with_owner run.drivers owner driver }

-- ---- memory

-- the bytes of an arena, each 0
unfoldable pub empty_arena : List ℕ
empty_arena = zeros 1048576

abbrev pub bytes_of : List (List ℕ) → ℕ → List ℕ
bytes_of memories owner = of_owner [] memories owner

abbrev pub with_memory : ℕ → List ℕ → List (List ℕ) → List (List ℕ)
with_memory owner bytes memories = with_owner memories owner bytes

abbrev pub range_of : Block → GrantedRange
range_of b = record { base = b.base; size = block_size b }

-- the memory of a driver as its statements see it: its bytes, and the blocks that the history grants to it, the earliest first
abbrev pub memory_of : History → List (List ℕ) → ℕ → Memory
memory_of h memories owner = record { bytes = bytes_of memories owner; granted = reverse (map range_of (granted h owner)) }

-- ---- activities

abbrev pub activity_of : Tasks → ℕ → Option Running
activity_of tasks task = get_or tasks task None

abbrev pub with_activity : ℕ → Option Running → Tasks → Tasks
with_activity task activity tasks = set tasks task activity

-- the task has an activity
abbrev pub is_live : Tasks → ℕ → Bool
is_live tasks task = is_some (activity_of tasks task)

-- an activity of this driver
abbrev pub is_owned : ℕ → Option Running → Bool
is_owned owner None = false
is_owned owner (Some r) = eqb r.owner owner

-- the driver has an activity
abbrev pub has_activity : Tasks → ℕ → Bool
has_activity tasks owner = list_any (is_owned owner) tasks

-- an activity that is not this driver's, if there is one
abbrev pub unless_owned : ℕ → Option Running → Option Running
unless_owned owner None = None
unless_owned owner (Some r) = elim (eqb r.owner owner) [ true ↦ None | false ↦ Some r ]

-- the tasks without all activities of a driver
abbrev pub without_activities : ℕ → Tasks → Tasks
without_activities owner tasks = map (unless_owned owner) tasks

-- who acts in an activity of a task
abbrev pub who_in : ℕ → Running → Who
who_in task r = record { owner = r.owner; task = task }

-- ---- the run

-- the run has come to its bound, or a step had no meaning: nothing more takes place
abbrev pub is_over : RunState → Bool
is_over run = run.is_stopped || run.is_astray

-- no step is left
abbrev pub is_spent : RunState → Bool
is_spent run = eqb run.left 0

-- some activity holds interrupts off
abbrev pub is_masked : History → Bool
is_masked h = list_any is_mask (live_of h)

-- ---- the first world

-- every driver is absent, nothing has happened, the clock is 0
abbrev pub first_run : ℕ → RunState
first_run bound = record {
  drivers = replicate 4 not_loaded;
  waiting = replicate 64 false;
  left = bound;
  is_blocked = false;
  is_stopped = false;
  is_astray = false;
  has_failed = false;
}

-- one owner holds a line, and four in version 2
abbrev pub share_of : ℕ → ℕ
share_of version = elim (eqb version 2) [ true ↦ 4 | false ↦ 1 ]

-- the world before a run of these drivers with the answers of a scenario of this version
abbrev pub first_world : List CheckedUnit → ℕ → List ℤ → ℕ → WorldState
first_world drivers version answers bound = record {
  plan = record { drivers = drivers; answers = answers; share = share_of version; bound = bound };
  run = first_run bound;
  history = [];
  tasks = replicate 9 None;
  memories = map (λ unit. empty_arena) drivers;
  devices = record { waiting = []; room = length answers };
  said = [];
}
