-- What is known of every world for which the code stands, and what is left of a script.
-- Here: Decides, LeadsIf, Keeps, Going
use Rattle.std.specs.Prelude.{◌≡◌, ℕ, Bool, List, Option}
use Rattle.checked_tree.specs.declared.units.CheckedUnit.{CheckedUnit}
use Rattle.world_core.specs.WorldState.{WorldState}
use Rattle.world_core.specs.Script.{Script, does}
use Rattle.world.specs.declared.live.Live.{Live}
use Rattle.world.specs.Standing.{Here, here, IsWorld, Leads}

-- a test comes out so in every world for which it stands
pub record Decides (units : List CheckedUnit) (at : Here) (test : WorldState → Bool) (outcome : Bool) : Type 0 where
  pub to : (first : Option (List ℕ)) (faults : ℕ) (s : WorldState) → IsWorld units at first faults s → test s ≡ outcome

-- For whatever world of this kind it stood, it stands afterwards for the world after the script.
pub record LeadsIf (units : List CheckedUnit) (kind : WorldState → Type 0) (old new : Here) (script : Script) : Type 0 where
  pub to : (first : Option (List ℕ)) (faults : ℕ) (s : WorldState) → kind s → IsWorld units old first faults s →
      IsWorld units new first faults (does script s)

-- the same, where nothing is printed, with whatever is told
abbrev pub Changes : List CheckedUnit → Live → Live → Script → Type 0
Changes units old new script = (kept : List ℕ) (written : Option (List ℕ)) (faults : ℕ) →
    Leads units (here old kept written faults) (here new kept written faults) script

-- After a part of the whole: what leads on by the rest leads from the start by the whole.
pub record Going (units : List CheckedUnit) (start now : Here) (whole rest : Script) : Type 0 where
  pub to : (end : Here) → Leads units now end rest → Leads units start end whole
