-- A step of the machine, and what is left of the script of a step then.
-- Here: left_by, Steps, IsSomewhere
use Rattle.std.specs.Prelude.{◌≡◌, ℕ, List, Option}
use Rattle.sd_base.specs.declared.actors.Who.{Who}
use Rattle.checked_tree.specs.declared.units.CheckedUnit.{CheckedUnit}
use Rattle.driver_machine.specs.declared.step_out.StepOut.{StepOut}
use Rattle.driver_machine.specs.declared.step_out.StepOut.TheVariants as out
use Rattle.world_core.specs.WorldState.{WorldState}
use Rattle.world_core.specs.Script.{Script, nothing, by_history, does}
use Rattle.world_core.specs.Failing.{fails, strays}
use Rattle.world_core.specs.Calling.{asks}
use Rattle.world_core.specs.Stepping.{ends_by, left_held, acts}
use Rattle.world.specs.declared.live.Live.{Live}
use Rattle.world.specs.Standing.{Here, here, IsWorld, IsGood}

-- what is still to be done when the machine has made a step
abbrev pub left_by : Who → ℕ → StepOut → Script
left_by who line out.Went = nothing
left_by who line (out.Wants call) = asks who line call
left_by who line (out.Ended value) = by_history (λ h. ends_by who line value (left_held h who))
left_by who line (out.Failed at kind) = fails who kind at
left_by who line (out.Wild at) = strays who at

-- the world in between
pub record Between (units : List CheckedUnit) (new : Here) (who : Who) (line : ℕ) (answer : StepOut) (first : Option (List ℕ)) (faults : ℕ) (s : WorldState) : Type 0 where
  pub state : WorldState
  pub is : IsWorld units new first faults state
  pub same : does (left_by who line answer) state ≡ does (acts who.task) s

-- For whatever world it stood, it stands for a world from which what is left leads to where the step leads.
pub record Steps (units : List CheckedUnit) (old new : Here) (who : Who) (line : ℕ) (answer : StepOut) : Type 0 where
  pub to : (first : Option (List ℕ)) (faults : ℕ) (s : WorldState) → IsWorld units old first faults s →
      Between units new who line answer first faults s

-- it stands for some world, whatever is told
pub record IsSomewhere (units : List CheckedUnit) (live : Live) : Type 0 where
  pub kept : List ℕ
  pub written : Option (List ℕ)
  pub faults : ℕ
  pub good : IsGood units (here live kept written faults)
