-- What a frame stands for: a frame of the definition. Above, a frame is known by this alone, and by what its calls say of it: its own form is seen here only.
use Rattle.std.specs.Prelude.{◌≡◌, IsTrue, List, [], ◌∷◌, Option, Some, None, ℤ, All, Result, Ok, Err, slice_get}
use Rattle.byte_memory.specs.Tested.{Memory}
use Rattle.checked_tree.specs.declared.kernel.Answer.{Answer}
use Rattle.checked_tree.specs.declared.shapes.Scalar.{Scalar}
use Rattle.checked_tree.specs.declared.shapes.Scalar.TheVariants.{Void}
use Rattle.checked_tree.specs.declared.statements.CheckedStmt.{CheckedStmt}
use Rattle.checked_tree.specs.declared.stops.Stop.{Stop}
use Rattle.checked_tree.specs.declared.units.CheckedFn.{CheckedFn}
use Rattle.checked_tree.specs.declared.units.CheckedUnit.{CheckedUnit}
use Rattle.checked_tree.specs.Numbers.{is_value}
use Rattle.checked_tree.specs.Step as step
use Rattle.checked_tree.specs.Step.{Activity, called, returned, resume, answered, line_at}
use Rattle.driver_machine.specs.declared.frame.Frame.{Frame}
use Rattle.driver_machine.specs.declared.turn.Turn.{Turn}
use Rattle.driver_machine.specs.declared.turn.Turn.TheVariants as turn
use Rattle.driver_machine.specs.Paths.{IsReady, todo_at}

-- ---- one frame
-- the body of a function, none where there is no such function
abbrev pub body_of : Option CheckedFn → List CheckedStmt
body_of None = []
body_of (Some f) = f.body

-- the frame of the definition that a frame stands for, in a function of this unit
unfoldable pub standing : CheckedUnit → Frame → step.Frame
standing unit fr = record {
  function = fr.function;
  locals = fr.locals.items;
  todo = todo_at (body_of (slice_get unit.functions fr.function)) fr.position.path.items fr.position.at;
}

-- a frame stands in a function of the unit, at a place of its body, with values of 32 bits
pub record IsStanding (unit : CheckedUnit) (fr : Frame) : Type 0 where
  pub function : CheckedFn
  pub is : slice_get unit.functions fr.function ≡ Some function
  pub ready : IsReady function.body fr.position.path.items fr.position.at
  pub words : All (λ z. IsTrue (is_value z)) fr.locals.items

-- ---- what its calls do
-- the type of what a function gives back, void where there is no such function
abbrev pub result_of : Option CheckedFn → Scalar
result_of None = Void
result_of (Some f) = f.result

-- Nothing changes.
abbrev pub Stays : step.Frame → Memory → step.Frame → Memory → Type 0
Stays fr m fr' m' = (fr' ≡ fr) × (m' ≡ m)

-- A frame does the statement at which it stands, whatever frames wait below it: control goes on, or it turns to a function, to the kernel or to the caller,
-- where the frame stays as it is; or the step stops, and nothing changes.
abbrev pub TopSteps : CheckedUnit → step.Frame → Memory → Result Turn Stop → step.Frame → Memory → List ℤ → Type 0
TopSteps unit fr m (Ok turn.On) fr' m' arguments = (below : Activity) → step.step unit (fr ∷ below) m ≡ Ok (step.Went (fr' ∷ below) m')
TopSteps unit fr m (Ok (turn.Into holds)) fr' m' arguments = (below : Activity) → step.step unit (fr ∷ below) m ≡ Ok (step.Went (fr' ∷ below) m')
TopSteps unit fr m (Ok (turn.Calls number)) fr' m' arguments =
    ((below : Activity) → step.step unit (fr ∷ below) m ≡ called (line_at fr.todo) number arguments (slice_get unit.functions number) (fr ∷ below) m) × Stays fr m fr' m'
TopSteps unit fr m (Ok (turn.Asks call)) fr' m' arguments = ((below : Activity) → step.step unit (fr ∷ below) m ≡ Ok (step.Wants (fr ∷ below) call)) × Stays fr m fr' m'
TopSteps unit fr m (Ok (turn.Returns value)) fr' m' arguments =
    ((below : Activity) → step.step unit (fr ∷ below) m ≡ returned (result_of (slice_get unit.functions fr.function)) below m value) × Stays fr m fr' m'
TopSteps unit fr m (Err e) fr' m' arguments = ((below : Activity) → step.step unit (fr ∷ below) m ≡ Err e) × Stays fr m fr' m'

-- A frame goes on behind the call at which it waits, with the result in its local; or the result has no place there, and nothing changes.
abbrev pub CallerGoesOn : Scalar → Option ℤ → step.Frame → Result (Unit {0}) Stop → step.Frame → Type 0
CallerGoesOn scalar value fr (Ok x) fr' = (below : Activity) (m : Memory) → resume scalar fr fr.todo below m value ≡ Ok (step.Went (fr' ∷ below) m)
CallerGoesOn scalar value fr (Err e) fr' = ((below : Activity) (m : Memory) → resume scalar fr fr.todo below m value ≡ Err e) × (fr' ≡ fr)

-- A frame goes on behind the kernel call at which it waits, with the answer in its local.
abbrev pub AskerGoesOn : Answer → step.Frame → step.Frame → Type 0
AskerGoesOn reply fr fr' = (below : Activity) → answered (fr ∷ below) reply ≡ fr' ∷ below
