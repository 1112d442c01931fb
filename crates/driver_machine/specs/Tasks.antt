-- The activity of a task: its live frames are the first ones of a row of frames, the lowest first.
use Rattle.std.specs.Prelude.{◌≡◌, ℕ, zero, suc, List, [], ◌∷◌, Option, Some, None, Ok, Err, slice_get}
use Rattle.byte_memory.specs.Tested.{Memory}
use Rattle.checked_tree.specs.declared.stops.Stop.{Stop}
use Rattle.checked_tree.specs.declared.stops.Stop.TheVariants.{Failed, Wild}
use Rattle.checked_tree.specs.declared.units.CheckedUnit.{CheckedUnit}
use Rattle.checked_tree.specs.Outcome.{Outcome}
use Rattle.checked_tree.specs.Step as step
use Rattle.checked_tree.specs.Step.{Activity}
use Rattle.driver_machine.specs.declared.frame.Frame.{Frame}
use Rattle.driver_machine.specs.declared.step_out.StepOut.{StepOut}
use Rattle.driver_machine.specs.declared.step_out.StepOut.TheVariants as out
use Rattle.driver_machine.specs.Standing.{standing, IsStanding}

-- ---- the first n frames of a row
abbrev pub on_top : CheckedUnit → Option Frame → Activity → Activity
on_top unit None below = below
on_top unit (Some fr) below = standing unit fr ∷ below

-- the activity of the definition, its top frame first
unfoldable pub activity : CheckedUnit → List Frame → ℕ → Activity
activity unit frames zero = []
activity unit frames (suc n) = on_top unit (slice_get frames n) (activity unit frames n)

abbrev pub StandsAt : CheckedUnit → Option Frame → Type 0
StandsAt unit None = ⊥
StandsAt unit (Some fr) = IsStanding unit fr

-- each of them stands in its function
unfoldable pub AreStanding : CheckedUnit → List Frame → ℕ → Type 0
AreStanding unit frames zero = Unit {0}
AreStanding unit frames (suc n) = StandsAt unit (slice_get frames n) × AreStanding unit frames n

-- ---- a step of an activity
-- what a stop is, at this line
abbrev pub stopped : Stop → ℕ → StepOut
stopped (Failed at kind) line = out.Failed at kind
stopped Wild line = out.Wild line

-- What the machine answers where an outcome of the definition comes to, from the activity and the memory before it, with those behind it. What fails changes nothing.
abbrev pub ComesTo : Outcome step.Next → Activity → Memory → StepOut → Activity → Memory → Type 0
ComesTo outcome frames m out.Went frames' m' = outcome ≡ Ok (step.Went frames' m')
ComesTo outcome frames m (out.Wants call) frames' m' = (outcome ≡ Ok (step.Wants frames' call)) × (frames' ≡ frames) × (m' ≡ m)
ComesTo outcome frames m (out.Ended value) frames' m' = (outcome ≡ Ok (step.Ended value)) × (frames' ≡ []) × (m' ≡ m)
ComesTo outcome frames m (out.Failed line kind) frames' m' = (outcome ≡ Err (Failed line kind)) × (frames' ≡ frames) × (m' ≡ m)
ComesTo outcome frames m (out.Wild line) frames' m' = (outcome ≡ Err Wild) × (line ≡ step.line frames) × (frames' ≡ frames) × (m' ≡ m)
