-- A call from outside begins on a task of the machine.
-- Here: BegunBy, Begins, BegunIn
use Rattle.std.specs.Prelude.{◌≡◌, ℕ, ◌≤◌, List, ℤ, Option, None, Some, length}
use Rattle.checked_tree.specs.declared.units.CheckedUnit.{CheckedUnit}
use Rattle.checked_tree.specs.Step.{Activity, started}
use Rattle.driver_machine.specs.declared.task.Task.{Task}
use Rattle.driver_machine.specs.Machines.{owner_in, activity_in, Belongs, OthersStay}
use Rattle.world.specs.Standing.{unit_at}

-- the task has this activity of the driver of this unit, or none
abbrev pub BegunBy : CheckedUnit → ℕ → ℕ → Option Activity → List Task → Type 0
BegunBy unit task owner None machine = owner_in machine task ≡ None
BegunBy unit task owner (Some frames) machine =
    (owner_in machine task ≡ Some owner) × (activity_in unit machine task ≡ frames) × Belongs unit machine task

-- what begins is what the definition says, and nothing else changes
pub record Begins (unit : CheckedUnit) (task owner function : ℕ) (values : List ℤ) (old new : List Task) : Type 0 where
  pub others : OthersStay task old new
  pub begun : BegunBy unit task owner (started unit function values) new

-- the same in the units of all drivers
abbrev pub BegunIn : List CheckedUnit → ℕ → ℕ → Option Activity → List Task → Type 0
BegunIn units task owner None machine = owner_in machine task ≡ None
BegunIn units task owner (Some frames) machine =
    (owner_in machine task ≡ Some owner) × (activity_in (unit_at units owner) machine task ≡ frames) × Belongs (unit_at units owner) machine task
    × (1 ≤ owner) × (owner ≤ length units)
