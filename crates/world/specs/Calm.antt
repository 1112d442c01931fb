-- A world in which a handler may begin: task 0, on which handlers run, is idle unless the run is over.
-- Here: IsQuiet, IsCalm
use Rattle.std.specs.Prelude.{◌≡◌, ℕ, false, List, Option}
use Rattle.checked_tree.specs.declared.units.CheckedUnit.{CheckedUnit}
use Rattle.world_core.specs.WorldState.{WorldState, is_live, is_over}
use Rattle.world.specs.Standing.{Here, IsWorld}

abbrev pub IsQuiet : WorldState → Type 0
IsQuiet s = is_over s.run ≡ false → is_live s.tasks 0 ≡ false

-- it stands for such a world
pub record IsCalm (units : List CheckedUnit) (at : Here) : Type 0 where
  pub first : Option (List ℕ)
  pub faults : ℕ
  pub state : WorldState
  pub is : IsWorld units at first faults state
  pub quiet : IsQuiet state
