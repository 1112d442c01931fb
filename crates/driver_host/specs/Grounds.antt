-- What the world keeps beside the drivers' activities, what it stands for, and what it is that it carries out a script.
-- Here: told, undone_items, IsGround, Carries
use Rattle.std.specs.Prelude.{◌≡◌, ℕ, List, map, Option}
use Rattle.update_tracker.specs.declared.undo.Undo.{Undo}
use Rattle.run_report.specs.declared.item.Item.{Item}
use Rattle.run_report.specs.declared.item.Item.TheVariants as item
use Rattle.driver_host.specs.Hosting.{IsHost}
use Rattle.driver_host.specs.declared.ground.Ground.{Ground}
use Rattle.world_core.specs.WorldState.{WorldState}
use Rattle.world_core.specs.Script.{Script, does}
use Rattle.world_core.specs.Showing.{names_of}
use Rattle.world_core.specs.Failing.{undone_item}
use Rattle.driver_host.specs.Printing.{Out, out, IsTold}

-- what is told, with these bytes kept and written
abbrev pub told : Ground → List ℕ → Option (List ℕ) → ℕ → Out
told ground kept written faults = out ground.is_silent kept written faults

-- what is printed of things that are taken back
abbrev pub undone_items : (ℕ → ℕ → List ℕ) → ℕ → List Undo → List Item
undone_items names owner undone = map (λ u. item.Undone owner (undone_item names owner u)) undone

-- It stands for this world, its activities aside: the run, the history, memories and devices are the world's, and what the world has printed
-- is told.
pub record IsGround (ground : Ground) (o : Out) (first : Option (List ℕ)) (faults : ℕ) (s : WorldState) : Type 0 where
  pub run : ground.run ≡ s.run
  pub host : IsHost s.plan.share ground.host s.history s.memories s.devices
  pub told : IsTold o first faults s.said

-- For whatever world it stood, it stands afterwards for the world after the script, where the drivers' functions have these names.
pub record Carries (old new : Ground) (o o' : Out) (names : ℕ → ℕ → List ℕ) (script : Script) : Type 0 where
  pub to : (first : Option (List ℕ)) (faults : ℕ) (s : WorldState) → names_of s.plan ≡ names → IsGround old o first faults s →
      IsGround new o' first faults (does script s)
