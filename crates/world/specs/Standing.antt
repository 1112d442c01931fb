-- What changes in a world as the code keeps it, what it stands for, and what it is that it carries out a script.
-- Here: units_of, driver_at, names_in, running_in, HasActivities, Here, here, IsWorld, IsGood, Leads
use Rattle.std.specs.Prelude.{◌≡◌, ℕ, zero, suc, ◌≤◌, List, map, length, slice_get, Option, None, Some}
use Rattle.checked_tree.specs.declared.units.CheckedUnit.{CheckedUnit}
use Rattle.safe_code.specs.Drivers.{Driver}
use Rattle.driver_machine.specs.declared.task.Task.{Task}
use Rattle.driver_machine.specs.Machines.{owner_in, activity_in, Belongs}
use Rattle.driver_host.specs.Printing.{Out, out}
use Rattle.driver_host.specs.Grounds.{IsGround}
use Rattle.world_core.specs.WorldState.{WorldState, Running, Tasks, of_owner, no_unit, activity_of}
use Rattle.world_core.specs.Script.{Script, does}
use Rattle.world_core.specs.Showing.{name_of}
use Rattle.world.specs.declared.live.Live.{Live}

-- ---- the drivers

-- their units, `d1` first
abbrev pub units_of : List Driver → List CheckedUnit
units_of drivers = map (λ (d : Driver). d.unit) drivers

-- the driver with this number; the kernel, which is 0, is none
abbrev pub driver_at : List Driver → ℕ → Option Driver
driver_at drivers zero = None
driver_at drivers (suc k) = slice_get drivers k

abbrev pub unit_at : List CheckedUnit → ℕ → CheckedUnit
unit_at units owner = of_owner no_unit units owner

-- the name of a driver's function by its number
abbrev pub names_in : List CheckedUnit → ℕ → ℕ → List ℕ
names_in units owner function = name_of (slice_get (unit_at units owner).functions function)

-- ---- the activities

abbrev pub running_by : List CheckedUnit → List Task → ℕ → Option ℕ → Option Running
running_by units machine task None = None
running_by units machine task (Some owner) = Some (record { owner = owner; frames = activity_in (unit_at units owner) machine task })

-- the activity of a task, in the unit of its driver
abbrev pub running_in : List CheckedUnit → List Task → ℕ → Option Running
running_in units machine task = running_by units machine task (owner_in machine task)

abbrev pub BelongsBy : List CheckedUnit → List Task → ℕ → Option ℕ → Type 0
BelongsBy units machine task None = Unit {0}
BelongsBy units machine task (Some owner) = Belongs (unit_at units owner) machine task × (1 ≤ owner) × (owner ≤ length units)

-- the machine has the activities of these tasks, each one's of a driver that there is
pub record HasActivities (units : List CheckedUnit) (machine : List Task) (tasks : Tasks) : Type 0 where
  pub nine : length tasks ≡ 9
  pub each : (task : ℕ) → activity_of tasks task ≡ running_in units machine task
  pub belongs : (task : ℕ) → BelongsBy units machine task (owner_in machine task)

-- ---- the world

-- what changes of a world, and what is told
pub record Here : Type 0 where
  pub live : Live
  pub told : Out

abbrev pub here : Live → List ℕ → Option (List ℕ) → ℕ → Here
here live kept written faults = record { live = live; told = out live.ground.is_silent kept written faults }

-- It stands for this world of these drivers, and what the world has printed is told.
pub record IsWorld (units : List CheckedUnit) (at : Here) (first : Option (List ℕ)) (faults : ℕ) (s : WorldState) : Type 0 where
  pub drivers : s.plan.drivers ≡ units
  pub few : length units ≤ 4
  pub memories : length s.memories ≡ length units
  pub ground : IsGround at.live.ground at.told first faults s
  pub activities : HasActivities units at.live.machine s.tasks

-- it stands for a world
pub record IsGood (units : List CheckedUnit) (at : Here) : Type 0 where
  pub first : Option (List ℕ)
  pub faults : ℕ
  pub state : WorldState
  pub is : IsWorld units at first faults state

-- For whatever world it stood, it stands afterwards for the world after the script.
pub record Leads (units : List CheckedUnit) (old new : Here) (script : Script) : Type 0 where
  pub to : (first : Option (List ℕ)) (faults : ℕ) (s : WorldState) → IsWorld units old first faults s →
      IsWorld units new first faults (does script s)
