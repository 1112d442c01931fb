-- A run as its caller sees it: what a world stands for, what an event may ask of it, and what a whole run is told as.
-- Here: tells, Stands, CarriesOut, IsOpen, room_of, given_by, NamesAnswers, IsPlayable, IsBegun, IsWholeRun, failure_in, is_bounded
use Rattle.std.specs.Prelude.{◌≡◌, ℕ, ◌+◌, ◌≤◌, Bool, false, List, [], length, ℤ, Option}
use Rattle.std.specs.List.{list_any}
use Rattle.safe_code.specs.Drivers.{Driver}
use Rattle.scenario.specs.declared.event.Event.{Event}
use Rattle.scenario.specs.declared.event.Event.TheVariants.{Answer}
use Rattle.scenario.specs.declared.plan.Scenario.{Scenario}
use Rattle.scenario.specs.Fits.{AllFit, AnswersFollow}
use Rattle.driver_host.specs.Printing.{Out, out}
use Rattle.world_core.specs.WorldState.{WorldState, first_world}
use Rattle.world_core.specs.Script.{Script, does}
use Rattle.world_core.specs.Events.{whole, is_failure, items_of, text_of}
use Rattle.world.specs.declared.world.World.{World}
use Rattle.world.specs.Standing.{units_of, IsWorld}
use Rattle.world.specs.Ready.{IsReady, AreDueSet}

-- ---- what a world stands for

-- what is told of it, with these bytes kept and written
abbrev pub tells : World → List ℕ → Option (List ℕ) → ℕ → Out
tells world kept written faults = out world.live.ground.is_silent kept written faults

-- It stands for this world, which has its drivers, its bound and these answers of the scenario.
pub record Stands (world : World) (answers : List ℤ) (o : Out) (first : Option (List ℕ)) (faults : ℕ) (s : WorldState) : Type 0 where
  pub is : IsWorld (units_of world.drivers.list.items) (record { live = world.live; told = o }) first faults s
  pub bound : s.plan.bound ≡ world.bound
  pub gives : s.plan.answers ≡ answers

-- For whatever world it stood, it stands afterwards for the world after the script; its drivers and its bound are those that they were.
pub record CarriesOut (answers : List ℤ) (old new : World) (before now : Out) (script : Script) : Type 0 where
  pub drivers : new.drivers.list.items ≡ old.drivers.list.items
  pub bound : new.bound ≡ old.bound
  pub to : (first : Option (List ℕ)) (faults : ℕ) (s : WorldState) → Stands old answers before first faults s →
      Stands new answers now first faults (does script s)

-- An event may take place: it stands for some world, in which a handler may begin unless the run is over, and each driver that is due to be
-- started anew has a task.
pub record IsOpen (world : World) (o : Out) : Type 0 where
  pub ready : IsReady (units_of world.drivers.list.items) (record { live = world.live; told = o })
  pub due : AreDueSet world.live.ground.run

-- ---- the scenario's answers

-- how many more answers the devices take
abbrev pub room_of : World → ℕ
room_of world = world.live.ground.host.devices.room

-- how many an event gives to a port
abbrev pub given_by : Event → ℕ
given_by (Answer port first n) = n
given_by _ = 0

-- those that an event names are among so many
abbrev pub NamesAnswers : ℕ → Event → Type 0
NamesAnswers answers (Answer port first n) = first + n ≤ answers
NamesAnswers answers _ = Unit {0}

-- ---- a whole run

-- What is known of a scenario that was read for so many drivers: its numbers lie in their ranges, and its answers are given in their order.
pub record IsPlayable (drivers : ℕ) (scenario : Scenario) : Type 0 where
  pub fits : AllFit scenario.version drivers scenario.events.items
  pub follows : AnswersFollow 0 scenario.events.items (length scenario.answers.items)
  pub few : length scenario.answers.items ≤ 262144

-- A world before its first event, of which nothing is told yet: it stands for the definition's first world, whatever was written before.
pub record IsBegun (world : World) (drivers : List Driver) (version : ℕ) (answers : List ℤ) (bound : ℕ) : Type 0 where
  pub holds : world.drivers.list.items ≡ drivers
  pub loud : world.live.ground.is_silent ≡ false
  pub room : room_of world ≡ length answers
  pub stands : (written : Option (List ℕ)) (faults : ℕ) →
      Stands world answers (tells world [] written faults) written faults (first_world (units_of drivers) version answers bound)
  pub opens : (written : Option (List ℕ)) (faults : ℕ) → IsOpen world (tells world [] written faults)

-- what a run of these drivers under a scenario prints
abbrev pub run_text : List Driver → Scenario → ℕ → List ℕ
run_text drivers scenario bound = text_of (units_of drivers) scenario.version scenario.answers.items scenario.events.items bound

-- a line that tells of a failure, or of a step without a meaning, stands among what is printed
abbrev pub run_fails : List Driver → Scenario → ℕ → Bool
run_fails drivers scenario bound =
    list_any is_failure (items_of (units_of drivers) scenario.version scenario.answers.items scenario.events.items bound)

-- the bound stopped it
abbrev pub run_stops : List Driver → Scenario → ℕ → Bool
run_stops drivers scenario bound =
    (does (whole scenario.events.items) (first_world (units_of drivers) scenario.version scenario.answers.items bound)).run.is_stopped
