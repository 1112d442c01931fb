-- A machine as a contract sees it: its tasks by their numbers. What a task does is told by its activity in the unit of its driver, and by whose activity it is.
use Rattle.std.specs.Prelude.{◌≡◌, ◌≢◌, ℕ, ◌≤◌, ◌==◌, true, List, [], All, IsTrue, ℤ, Option, Some, None, Result, Ok, Err, length, slice_get, if◌then◌else◌}
use Rattle.checked_tree.specs.declared.units.CheckedUnit.{CheckedUnit}
use Rattle.checked_tree.specs.Numbers.{is_value}
use Rattle.checked_tree.specs.Step.{Activity, started}
use Rattle.driver_machine.specs.declared.busy.Busy.{Busy}
use Rattle.driver_machine.specs.declared.step_out.StepOut.{StepOut}
use Rattle.driver_machine.specs.declared.step_out.StepOut.TheVariants as out
use Rattle.driver_machine.specs.declared.task.Task.{Task}
use Rattle.driver_machine.specs.Tasks.{activity, AreStanding}
use Rattle.driver_machine.specs.Waiting.{are_waiting}

-- ---- one task
-- it has 64 frames, of which the first ones are live
pub record IsTask (t : Task) : Type 0 where
  pub room : length t.frames.items ≡ 64
  pub few : t.live ≤ 64

-- its activity, in the unit of its driver
abbrev pub activity_of : CheckedUnit → Task → Activity
activity_of unit t = activity unit t.frames.items t.live

-- it belongs to the driver of this unit: each of its frames stands in a function of the unit, each but the top one waits in a call of the function of the frame above it
abbrev pub BelongsTo : CheckedUnit → Task → Type 0
BelongsTo unit t = AreStanding unit t.frames.items t.live × (are_waiting (activity_of unit t) ≡ true)

-- whose activity a task of this owner has with so many live frames
abbrev pub owner_by : ℕ → ℕ → Option ℕ
owner_by live owner = if live == 0 then None else Some owner

-- the driver whose activity it has
abbrev pub owner_of : Task → Option ℕ
owner_of t = owner_by t.live t.owner

-- it has no activity any more, if that was one of this driver
abbrev pub dropped : ℕ → Task → Task
dropped owner t = if t.owner == owner then record t { live = 0 } else t

-- it takes a call from outside, of this driver
abbrev pub TaskStarts : CheckedUnit → ℕ → ℕ → List ℤ → Task → Result (Unit {0}) Busy → Task → Type 0
TaskStarts unit owner function arguments old (Err busy) new = (owner_of old ≢ None) × (new ≡ old)
TaskStarts unit owner function arguments old (Ok x) new =
    (owner_of old ≡ None) × (owner_of new ≡ Some owner) × (Some (activity_of unit new) ≡ started unit function arguments) × BelongsTo unit new

-- ---- all of them
-- nine tasks, and room for the arguments of a call
pub record IsMachine (tasks : List Task) (arguments : List ℤ) : Type 0 where
  pub nine : length tasks ≡ 9
  pub each : All IsTask tasks
  pub words : All (λ z. IsTrue (is_value z)) arguments

abbrev pub owner_at : Option Task → Option ℕ
owner_at None = None
owner_at (Some t) = owner_of t

-- the driver whose activity a task has, None where it has none
unfoldable pub owner_in : List Task → ℕ → Option ℕ
owner_in tasks task = owner_at (slice_get tasks task)

abbrev pub activity_at : CheckedUnit → Option Task → Activity
activity_at unit None = []
activity_at unit (Some t) = activity_of unit t

-- the activity of a task, in the unit of its driver
unfoldable pub activity_in : CheckedUnit → List Task → ℕ → Activity
activity_in unit tasks task = activity_at unit (slice_get tasks task)

abbrev pub BelongsAt : CheckedUnit → Option Task → Type 0
BelongsAt unit None = Unit {0}
BelongsAt unit (Some t) = BelongsTo unit t

-- a task belongs to the driver of a unit
unfoldable pub Belongs : CheckedUnit → List Task → ℕ → Type 0
Belongs unit tasks task = BelongsAt unit (slice_get tasks task)

-- the other tasks are as they were
abbrev pub OthersStay : ℕ → List Task → List Task → Type 0
OthersStay task old new = (other : ℕ) → other ≢ task → slice_get new other ≡ slice_get old other

-- ---- what its calls do
-- A call from outside: a task with an activity is busy, and nothing changes; else it has the activity of the definition, of this owner.
abbrev pub Starts : CheckedUnit → ℕ → ℕ → ℕ → List ℤ → List Task → Result (Unit {0}) Busy → List Task → Type 0
Starts unit owner task function arguments old (Err busy) new = (owner_in old task ≢ None) × (new ≡ old)
Starts unit owner task function arguments old (Ok x) new =
    (owner_in old task ≡ None) × (owner_in new task ≡ Some owner) × (Some (activity_in unit new task) ≡ started unit function arguments) × Belongs unit new task

-- whose activity a task has after a step
abbrev pub owner_after : StepOut → Option ℕ → Option ℕ
owner_after (out.Ended value) owner = None
owner_after _ owner = owner

-- each task that had an activity of this driver has none; each other is as it was
abbrev pub Drops : ℕ → List Task → List Task → Type 0
Drops owner old new = (task : ℕ)
    → (owner_in old task ≡ Some owner → owner_in new task ≡ None) × (owner_in old task ≢ Some owner → slice_get new task ≡ slice_get old task)
