-- One frame of a row of frames: what is seen of it, and what a call of it does. The others are as they were.
use Rattle.std.specs.Prelude.{◌≡◌, ℕ, List, ℤ, Option, Some, None, Result, slice_get, slice_set}
use Rattle.byte_memory.specs.Tested.{Memory}
use Rattle.checked_tree.specs.declared.kernel.Answer.{Answer}
use Rattle.checked_tree.specs.declared.shapes.Scalar.{Scalar}
use Rattle.checked_tree.specs.declared.shapes.Scalar.TheVariants.{Void}
use Rattle.checked_tree.specs.declared.stops.Stop.{Stop}
use Rattle.checked_tree.specs.declared.units.CheckedUnit.{CheckedUnit}
use Rattle.checked_tree.specs.Step.{line_at}
use Rattle.driver_machine.specs.declared.frame.Frame.{Frame}
use Rattle.driver_machine.specs.declared.turn.Turn.{Turn}
use Rattle.driver_machine.specs.Standing.{standing, IsStanding, TopSteps, CallerGoesOn, AskerGoesOn, result_of}

-- the line at which it stands
abbrev pub line_of_frame : CheckedUnit → Option Frame → ℕ
line_of_frame unit None = 0
line_of_frame unit (Some fr) = line_at (standing unit fr).todo

-- the type of what its function gives back
abbrev pub result_of_frame : CheckedUnit → Option Frame → Scalar
result_of_frame unit None = Void
result_of_frame unit (Some fr) = result_of (slice_get unit.functions (standing unit fr).function)

-- the frame at a place becomes another one, which stands in its function
pub record OneChanges (unit : CheckedUnit) (frames : List Frame) (at : ℕ) (frames' : List Frame) : Type 0 where
  pub old : Frame
  pub new : Frame
  pub was : slice_get frames at ≡ Some old
  pub set : frames' ≡ slice_set frames at new
  pub stands : IsStanding unit new

-- it does its statement
pub record OneSteps (unit : CheckedUnit) (frames : List Frame) (at : ℕ) (m : Memory) (result : Result Turn Stop) (frames' : List Frame) (m' : Memory) (arguments : List ℤ) : Type 0 where
  pub change : OneChanges unit frames at frames'
  pub steps : TopSteps unit (standing unit change.old) m result (standing unit change.new) m' arguments

-- it goes on behind a call
pub record OneResumes (unit : CheckedUnit) (frames : List Frame) (at : ℕ) (scalar : Scalar) (value : Option ℤ) (result : Result (Unit {0}) Stop) (frames' : List Frame) : Type 0 where
  pub change : OneChanges unit frames at frames'
  pub resumes : CallerGoesOn scalar value (standing unit change.old) result (standing unit change.new)

-- it goes on behind the kernel's answer
pub record OneAnswers (unit : CheckedUnit) (frames : List Frame) (at : ℕ) (reply : Answer) (frames' : List Frame) : Type 0 where
  pub change : OneChanges unit frames at frames'
  pub answers : AskerGoesOn reply (standing unit change.old) (standing unit change.new)
