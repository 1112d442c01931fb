-- From what one frame of a row does to what the activity of the row does.
use Rattle.std.proofs.Common.{◌≡◌, ℕ, ◌+◌, ◌<◌, List, ◌∷◌, length, ℤ, Option, Some, None, Ok, Err, slice_get, refl, sym, ap, ◌∙◌, subst, arith}
use Rattle.byte_memory.specs.Tested.{Memory}
use Rattle.checked_tree.specs.declared.kernel.Answer.{Answer}
use Rattle.checked_tree.specs.declared.kernel.KernelCall.{KernelCall}
use Rattle.checked_tree.specs.declared.shapes.Scalar.{Scalar}
use Rattle.checked_tree.specs.declared.stops.Stop.{Stop}
use Rattle.checked_tree.specs.declared.units.CheckedUnit.{CheckedUnit}
use Rattle.checked_tree.specs.Step as step
use Rattle.checked_tree.specs.Step.{Activity, answered, called, returned, line_at}
use Rattle.driver_machine.specs.declared.frame.Frame.{Frame}
use Rattle.driver_machine.specs.declared.step_out.StepOut.{StepOut}
use Rattle.driver_machine.specs.declared.turn.Turn.{Turn}
use Rattle.driver_machine.specs.declared.turn.Turn.TheVariants as turn
use Rattle.driver_machine.specs.Rows.{line_of_frame, result_of_frame, OneChanges, OneSteps, OneResumes, OneAnswers}
use Rattle.driver_machine.specs.Standing.{standing, IsStanding, Stays, result_of}
use Rattle.driver_machine.specs.Tasks.{activity, StandsAt, AreStanding, stopped, ComesTo}
use Rattle.driver_machine.proofs.Activities.{activity_top, missing, same_activity, standing_set, standing_under, stands_at_top}
use Rattle.driver_machine.proofs.TaskSteps.{top_went, top_asks, top_stops, top_calls, top_returns, top_answered, new_stands, caller_on, caller_stopped, stop_comes}

-- a frame that stands is there
pub stands_is : (unit : CheckedUnit) (o : Option Frame) (x : Frame) → o ≡ Some x → StandsAt unit o → IsStanding unit x
stands_is unit o x is h = subst (StandsAt unit) is h

module _ (unit : CheckedUnit) (frames frames' : List Frame) (live top : ℕ) (more : live ≡ top + 1) (there : top < length frames) where
  pub stands_under : AreStanding unit frames live → StandsAt unit (slice_get frames top)
  stands_under all = stands_at_top unit frames live top more all

  pub line_under : step.line (activity unit frames live) ≡ line_of_frame unit (slice_get frames top)
  line_under = by (slice_get frames top) refl
    where
      by : (o : Option Frame) → slice_get frames top ≡ o → step.line (activity unit frames live) ≡ line_of_frame unit (slice_get frames top)
      by (Some x) is = ap step.line (activity_top unit frames live top x more is) ∙ sym (ap (line_of_frame unit) is)
      by None is = absurd (let past = missing frames top is in omega (arith, past))

  pub one_stands : OneChanges unit frames top frames' → AreStanding unit frames live → AreStanding unit frames' live
  one_stands h all = subst (λ (fs : List Frame). AreStanding unit fs live) (sym h.set)
      (new_stands unit frames live top h.old h.new more there h.was h.stands all)

  pub one_goes : (m m' : Memory) (h : OneChanges unit frames top frames')
      → ((below : Activity) → step.step unit (standing unit h.old ∷ below) m ≡ Ok (step.Went (standing unit h.new ∷ below) m'))
      → step.step unit (activity unit frames live) m ≡ Ok (step.Went (activity unit frames' live) m')
  one_goes m m' h goes = subst (λ (fs : List Frame). step.step unit (activity unit frames live) m ≡ Ok (step.Went (activity unit fs live) m')) (sym h.set)
      (top_went unit frames live top h.old h.new more there h.was m m' goes)

  pub one_asks : (m m' : Memory) (call : KernelCall) (arguments : List ℤ) → OneSteps unit frames top m (Ok (turn.Asks call)) frames' m' arguments
      → (step.step unit (activity unit frames live) m ≡ Ok (step.Wants (activity unit frames' live) call))
      × (activity unit frames' live ≡ activity unit frames live) × (m' ≡ m)
  one_asks m m' call arguments h =
      subst (λ (fs : List Frame). (step.step unit (activity unit frames live) m ≡ Ok (step.Wants (activity unit fs live) call))
      × (activity unit fs live ≡ activity unit frames live) × (m' ≡ m)) (sym h.change.set)
      (top_asks unit frames live top h.change.old h.change.new more there h.change.was m m' call h.steps)

  -- the line of the frame that stays as it is
  line_stays : (m m' : Memory) (line : ℕ) (h : OneChanges unit frames top frames') → Stays (standing unit h.old) m (standing unit h.new) m'
      → line ≡ line_of_frame unit (slice_get frames top) → line ≡ line_at (standing unit h.new).todo
  line_stays m m' line h stays at = at ∙ ap (line_of_frame unit) h.was ∙ sym (ap (λ (f : step.Frame). line_at f.todo) stays.0)

  -- where the frame stays as it is, so does the activity
  pub one_as_before : (m m' : Memory) (h : OneChanges unit frames top frames') → Stays (standing unit h.old) m (standing unit h.new) m'
      → activity unit frames' live ≡ activity unit frames live
  one_as_before m m' h stays = subst (λ (fs : List Frame). activity unit fs live ≡ activity unit frames live) (sym h.set)
      (same_activity unit frames top h.old h.new live h.was stays.0)

  pub line_again : (m m' : Memory) (line : ℕ) (h : OneChanges unit frames top frames') → Stays (standing unit h.old) m (standing unit h.new) m'
      → line ≡ line_of_frame unit (slice_get frames top) → line ≡ step.line (activity unit frames' live)
  line_again m m' line h stays at = at ∙ sym line_under ∙ ap step.line (sym (one_as_before m m' h stays))

  pub one_stops : (m m' : Memory) (e : Stop) (line : ℕ) (arguments : List ℤ) (out : StepOut) → OneSteps unit frames top m (Err e) frames' m' arguments
      → line ≡ line_of_frame unit (slice_get frames top) → out ≡ stopped e line
      → ComesTo (step.step unit (activity unit frames live) m) (activity unit frames live) m out (activity unit frames' live) m'
  one_stops m m' e line arguments out h at stops =
      subst (λ (o : StepOut). ComesTo (step.step unit (activity unit frames live) m) (activity unit frames live) m o (activity unit frames' live) m') (sym stops)
      (subst (λ (fs : List Frame). ComesTo (step.step unit (activity unit frames live) m) (activity unit frames live) m (stopped e line) (activity unit fs live) m')
      (sym h.change.set)
      (top_stops unit frames live top h.change.old h.change.new more there h.change.was m m' e line h.steps (line_stays m m' line h.change h.steps.1 at)))

  pub one_calls : (m m' : Memory) (number line : ℕ) (arguments values : List ℤ) (out : StepOut) (b : Activity) → values ≡ arguments
      → OneSteps unit frames top m (Ok (turn.Calls number)) frames' m' arguments
      → line ≡ line_of_frame unit (slice_get frames top)
      → ((k : Memory) → ComesTo (called line number values (slice_get unit.functions number) (activity unit frames' live) k) (activity unit frames' live) k out b k)
      → ComesTo (step.step unit (activity unit frames live) m) (activity unit frames live) m out b m'
  one_calls m m' number line arguments values out b handed h at comes =
      top_calls unit frames live top h.change.old h.change.new more there h.change.was m m' number line arguments out b h.steps
      (line_stays m m' line h.change h.steps.1 at)
      (subst (λ (fs : List Frame). (k : Memory) → ComesTo (called line number arguments (slice_get unit.functions number) (activity unit fs live) k) (activity unit fs live) k out b k)
      h.change.set
      (subst (λ (vs : List ℤ). (k : Memory) → ComesTo (called line number vs (slice_get unit.functions number) (activity unit frames' live) k) (activity unit frames' live) k out b k)
      handed comes))

  pub one_returns : (m m' : Memory) (scalar : Scalar) (value : Option ℤ) (arguments : List ℤ) (out : StepOut) (b : Activity)
      → OneSteps unit frames top m (Ok (turn.Returns value)) frames' m' arguments
      → scalar ≡ result_of_frame unit (slice_get frames top)
      → ((k : Memory) → ComesTo (returned scalar (activity unit frames' top) k value) (activity unit frames' live) k out b k)
      → ComesTo (step.step unit (activity unit frames live) m) (activity unit frames live) m out b m'
  one_returns m m' scalar value arguments out b h gives comes =
      top_returns unit frames live top h.change.old h.change.new more there h.change.was m m' scalar value out b h.steps
      (gives ∙ ap (result_of_frame unit) h.change.was ∙ sym (ap (λ (f : step.Frame). result_of (slice_get unit.functions f.function)) h.steps.1.0))
      (subst (λ (fs : List Frame). (k : Memory) → ComesTo (returned scalar (activity unit fs top) k value) (activity unit fs live) k out b k) h.change.set comes)

  pub one_answers : (reply : Answer) → OneAnswers unit frames top reply frames' → activity unit frames' live ≡ answered (activity unit frames live) reply
  one_answers reply h = subst (λ (fs : List Frame). activity unit fs live ≡ answered (activity unit frames live) reply) (sym h.change.set)
      (top_answered unit frames live top h.change.old h.change.new reply more there h.change.was h.answers)

-- what a frame did, told of the turn that its outcome is
pub turn_is : {unit : CheckedUnit} {frames frames' : List Frame} {at : ℕ} {m m' : Memory} {t u : Turn} {arguments : List ℤ} → t ≡ u
    → OneSteps unit frames at m (Ok t) frames' m' arguments → OneSteps unit frames at m (Ok u) frames' m' arguments
turn_is {unit = unit} {frames = frames} {frames' = frames'} {at = at} {m = m} {m' = m'} {arguments = arguments} is h =
    subst (λ (x : Turn). OneSteps unit frames at m (Ok x) frames' m' arguments) is h

-- ---- the caller of the top frame
pub caller_stands : (unit : CheckedUnit) (frames : List Frame) (live top k : ℕ) → live ≡ top + 1 → top ≡ k + 1 → AreStanding unit frames live
    → StandsAt unit (slice_get frames k)
caller_stands unit frames live top k more below all = stands_at_top unit frames top k below (standing_under unit frames live top more all)

module _ (unit : CheckedUnit) (frames frames' : List Frame) (top k : ℕ) (more : top ≡ k + 1) (there : k < length frames) where
  pub one_resumes : (scalar : Scalar) (value : Option ℤ) → OneResumes unit frames k scalar value (Ok tt) frames' → (m : Memory)
      → returned scalar (activity unit frames top) m value ≡ Ok (step.Went (activity unit frames' top) m)
  one_resumes scalar value h m =
      subst (λ (fs : List Frame). returned scalar (activity unit frames top) m value ≡ Ok (step.Went (activity unit fs top) m)) (sym h.change.set)
      (caller_on unit frames top k h.change.old h.change.new scalar value more there h.change.was h.resumes m)

  pub one_without_place : (scalar : Scalar) (value : Option ℤ) (e : Stop) → OneResumes unit frames k scalar value (Err e) frames' → (m : Memory)
      → returned scalar (activity unit frames top) m value ≡ Err e
  one_without_place scalar value e h m =
      caller_stopped unit frames top k h.change.old h.change.new scalar value e more h.change.was h.resumes m

  pub one_set : (n : ℕ) → OneChanges unit frames k frames' → AreStanding unit frames n → AreStanding unit frames' n
  one_set n h all = subst (λ (fs : List Frame). AreStanding unit fs n) (sym h.set) (standing_set unit frames k h.new n h.stands all)

  pub one_same : (n : ℕ) (scalar : Scalar) (value : Option ℤ) (e : Stop) → OneResumes unit frames k scalar value (Err e) frames'
      → activity unit frames' n ≡ activity unit frames n
  one_same n scalar value e h = subst (λ (fs : List Frame). activity unit fs n ≡ activity unit frames n) (sym h.change.set)
      (same_activity unit frames k h.change.old h.change.new n h.change.was h.resumes.1)

  pub one_stopped : (live : ℕ) (scalar : Scalar) (value : Option ℤ) (e : Stop) (line : ℕ) (out : StepOut) → OneResumes unit frames k scalar value (Err e) frames'
      → line ≡ step.line (activity unit frames live) → out ≡ stopped e line → (m : Memory)
      → ComesTo (returned scalar (activity unit frames top) m value) (activity unit frames live) m out (activity unit frames' live) m
  one_stopped live scalar value e line out h at stops m =
      subst (λ (o : StepOut). ComesTo (returned scalar (activity unit frames top) m value) (activity unit frames live) m o (activity unit frames' live) m) (sym stops)
      (stop_comes e line (returned scalar (activity unit frames top) m value) (activity unit frames live) (activity unit frames' live) m m
      (one_without_place scalar value e h m) (one_same live scalar value e h) refl at)
