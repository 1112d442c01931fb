-- What an order comes to, as the code decides it.
-- Here: init_in, is_by
use Rattle.std.specs.Prelude.{ℕ, Bool, false, eqb, List, Option, None, Some}
use Rattle.checked_tree.specs.declared.units.CheckedUnit.{CheckedUnit}
use Rattle.world_core.specs.Loading.{init_of}
use Rattle.world.specs.Standing.{unit_at}

-- the number of a driver's `init`
abbrev pub init_in : List CheckedUnit → ℕ → Option ℕ
init_in units driver = init_of (unit_at units driver)

-- a task with an activity of the driver
abbrev pub is_by : ℕ → Option ℕ → Bool
is_by owner None = false
is_by owner (Some o) = eqb o owner
