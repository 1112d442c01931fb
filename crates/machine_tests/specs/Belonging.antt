-- What the tests keep of a machine between its calls.
use Rattle.std.specs.Prelude.{ℕ, List}
use Rattle.checked_tree.specs.declared.units.CheckedUnit.{CheckedUnit}
use Rattle.driver_machine.specs.declared.task.Task.{Task}
use Rattle.driver_machine.specs.Machines.{Belongs}

-- each task belongs to the driver of this unit
abbrev pub EachBelongs : CheckedUnit → List Task → Type 0
EachBelongs unit tasks = (task : ℕ) → Belongs unit tasks task
