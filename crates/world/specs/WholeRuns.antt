-- How a whole run ends: it is written whole, or memory is wanting before it begins, or a write fails.
-- Here: IsEnded, Faults, Closes, Played
use Rattle.std.specs.Prelude.{◌≡◌, ℕ, List, [], Option, Result, Ok, Err}
use Rattle.sd_outside.specs.Counts.{Rose}
use Rattle.sd_outside.specs.Sink.{more, IsCut}
use Rattle.safe_code.specs.Drivers.{Driver}
use Rattle.scenario.specs.declared.plan.Scenario.{Scenario}
use Rattle.run_report.specs.declared.item.Item.{Item}
use Rattle.run_report.specs.Lines.{print}
use Rattle.driver_host.specs.Printing.{Out, IsTold}
use Rattle.world.specs.declared.world.World.{World}
use Rattle.world.specs.declared.whole_run.Ended.{Ended}
use Rattle.world.specs.declared.whole_run.RunFault.{RunFault}
use Rattle.world.specs.declared.whole_run.RunFault.TheVariants.{Memory, Write}
use Rattle.world_core.specs.Events.{whole}
use Rattle.world.specs.Runs.{tells, CarriesOut, run_fails, run_stops}

-- it has failed exactly where a line that tells of a failure stands among what is printed, and the bound stopped it where it does by
-- definition
pub record IsEnded (drivers : List Driver) (scenario : Scenario) (bound : ℕ) (ended : Ended) : Type 0 where
  pub failed : ended.failed ≡ run_fails drivers scenario bound
  pub stopped : ended.stopped ≡ run_stops drivers scenario bound

-- where memory is wanting nothing is written, and where a write fails a front part of the text
abbrev pub Faults : List ℕ → Option (List ℕ) → ℕ → RunFault → Option (List ℕ) → ℕ → Type 0
Faults text before count Memory now later = (now ≡ before) × (later ≡ count)
Faults text before count Write now later = IsCut now (more before text) × Rose count later

-- what was told of these items is written, and the world tells how the run ended; or a front part is, where a write fails
abbrev pub ClosesAs : World → Option (List ℕ) → ℕ → List Item → Result Ended RunFault → Option (List ℕ) → ℕ → Type 0
ClosesAs world first faults said (Ok ended) now later =
    (now ≡ more first (print said)) × (later ≡ faults) × (ended.failed ≡ world.live.ground.run.has_failed)
    × (ended.stopped ≡ world.live.ground.run.is_stopped)
ClosesAs world first faults said (Err Memory) now later = ⊥
ClosesAs world first faults said (Err Write) now later = IsCut now (more first (print said)) × Rose faults later

-- the same of whatever was told
pub record Closes (world : World) (o : Out) (result : Result Ended RunFault) (now : Option (List ℕ)) (later : ℕ) : Type 0 where
  pub to : (first : Option (List ℕ)) (faults : ℕ) (said : List Item) → IsTold o first faults said →
      ClosesAs world first faults said result now later

-- all events of a scenario took place, and the last line, and what was told was written
pub record Played (start : World) (scenario : Scenario) (before : Option (List ℕ)) (count : ℕ) (result : Result Ended RunFault)
    (now : Option (List ℕ)) (later : ℕ) : Type 0 where
  pub end : World
  pub told : Out
  pub carries : CarriesOut scenario.answers.items start end (tells start [] before count) told (whole scenario.events.items)
  pub closes : Closes end told result now later
