-- What a step, an answer and a start keep of a task: that lower frames wait in their calls, and whose activity it has.
use Rattle.std.proofs.Common.{◌≡◌, ◌≢◌, ℕ, ◌≤◌, ◌<◌, ◌==◌, Bool, true, false, if◌then◌else◌, List, [], ◌∷◌, length, ℤ, Option, Some, None, Ok, slice_get, refl, sym, ap, ◌∙◌, subst, arith}
use Rattle.std.proofs.lemmas.Bool.Decides.{nat_tests}
use Rattle.byte_memory.specs.Tested.{Memory}
use Rattle.checked_tree.specs.declared.kernel.Answer.{Answer}
use Rattle.checked_tree.specs.declared.units.CheckedFn.{CheckedFn}
use Rattle.checked_tree.specs.declared.units.CheckedUnit.{CheckedUnit}
use Rattle.checked_tree.specs.Step as step
use Rattle.checked_tree.specs.Step.{Activity, answered, converted_arguments, entered, started, started_by}
use Rattle.driver_machine.specs.declared.frame.Frame.{Frame}
use Rattle.driver_machine.specs.declared.step_out.StepOut.{StepOut}
use Rattle.driver_machine.specs.declared.step_out.StepOut.TheVariants as out_form
use Rattle.driver_machine.specs.Machines.{owner_by, owner_after}
use Rattle.driver_machine.specs.Tasks.{activity, AreStanding, ComesTo}
use Rattle.driver_machine.specs.Waiting.{are_waiting}
use Rattle.driver_machine.proofs.Activities.{activity_length}
use Rattle.driver_machine.proofs.CallersWait.{has_frames, went_waits, answer_waits}

-- ---- lower frames wait
none_waits : are_waiting [] ≡ true
unfolding are_waiting
none_waits = refl

pub comes_waits : (unit : CheckedUnit) (a a' : Activity) (m m' : Memory) (out : StepOut) → are_waiting a ≡ true → ComesTo (step.step unit a m) a m out a' m'
    → are_waiting a' ≡ true
comes_waits unit a a' m m' out_form.Went wait h = (went_waits unit a a' m m' wait h).0
comes_waits unit a a' m m' (out_form.Wants call) wait h = subst (λ (x : Activity). are_waiting x ≡ true) (sym h.1) wait
comes_waits unit a a' m m' (out_form.Ended value) wait h = subst (λ (x : Activity). are_waiting x ≡ true) (sym h.1) none_waits
comes_waits unit a a' m m' (out_form.Failed line kind) wait h = subst (λ (x : Activity). are_waiting x ≡ true) (sym h.1) wait
comes_waits unit a a' m m' (out_form.Wild line) wait h = subst (λ (x : Activity). are_waiting x ≡ true) (sym h.2) wait

pub answered_waits : (a a' : Activity) (reply : Answer) → are_waiting a ≡ true → a' ≡ answered a reply → are_waiting a' ≡ true
answered_waits a a' reply wait is = subst (λ (x : Activity). are_waiting x ≡ true) (sym is) (answer_waits a reply wait)

first_waits : (number : ℕ) (arguments : List ℤ) (o : Option CheckedFn) (a : Activity) → Some a ≡ started_by number arguments o → are_waiting a ≡ true
unfolding are_waiting
first_waits number arguments None a h = absurd cc
first_waits number arguments (Some f) a h =
    let same : a ≡ entered number (converted_arguments arguments f.slots) f ∷ [] = cc in
    subst (λ (x : Activity). are_waiting x ≡ true) (sym same) refl

pub started_waits : (unit : CheckedUnit) (number : ℕ) (arguments : List ℤ) (a : Activity) → Some a ≡ started unit number arguments → are_waiting a ≡ true
unfolding started
started_waits unit number arguments a h = first_waits number arguments (slice_get unit.functions number) a h

-- ---- whose activity
owner_none : (live owner : ℕ) → live ≡ 0 → owner_by live owner ≡ None
owner_none live owner none = ap (λ (n : ℕ). owner_by n owner) none

some_live : (n : ℕ) → 0 < n → (n == 0) ≡ false
some_live n h = grind (arith, nat_tests)

owner_some : (live owner : ℕ) → 0 < live → owner_by live owner ≡ Some owner
owner_some live owner some = ap (λ (b : Bool). if b then None else Some owner) (some_live live some)

has_length : (a : Activity) → has_frames a ≡ true → 0 < length a
has_length [] h = absurd cc
has_length (top ∷ below) h = omega arith

went_has : (unit : CheckedUnit) (a : Activity) (m : Memory) (b : Activity) (n : Memory) → step.step unit a m ≡ Ok (step.Went b n) → 0 < length a
unfolding step.step step.step_kept
went_has unit [] m b n h = absurd cc
went_has unit (top ∷ below) m b n h = omega arith

module _ (unit : CheckedUnit) (frames frames' : List Frame) (live live' owner : ℕ) (room : length frames ≡ 64) (few : live ≤ 64) (room' : length frames' ≡ 64) (few' : live' ≤ 64) where
  before : length (activity unit frames live) ≡ live
  before = activity_length unit frames live (omega (arith, room, few))

  behind : length (activity unit frames' live') ≡ live'
  behind = activity_length unit frames' live' (omega (arith, room', few'))

  same_live : activity unit frames' live' ≡ activity unit frames live → owner_by live' owner ≡ owner_by live owner
  same_live same = ap (λ (n : ℕ). owner_by n owner) (sym behind ∙ ap (λ (a : Activity). length a) same ∙ before)

  pub comes_owner : (m m' : Memory) (out : StepOut) → are_waiting (activity unit frames live) ≡ true
      → ComesTo (step.step unit (activity unit frames live) m) (activity unit frames live) m out (activity unit frames' live') m'
      → owner_by live' owner ≡ owner_after out (owner_by live owner)
  comes_owner m m' out_form.Went wait h =
      let more = has_length (activity unit frames' live') (went_waits unit (activity unit frames live) (activity unit frames' live') m m' wait h).1 in
      let some = went_has unit (activity unit frames live) m (activity unit frames' live') m' h in
      owner_some live' owner (omega (arith, behind, more)) ∙ sym (owner_some live owner (omega (arith, before, some)))
  comes_owner m m' (out_form.Wants call) wait h = same_live h.1
  comes_owner m m' (out_form.Ended value) wait h =
      let none : length (activity unit frames' live') ≡ 0 = ap (λ (a : Activity). length a) h.1 in
      owner_none live' owner (sym behind ∙ none)
  comes_owner m m' (out_form.Failed line kind) wait h = same_live h.1
  comes_owner m m' (out_form.Wild line) wait h = same_live h.2

-- a task without an activity has none
pub live_not_none : (live owner : ℕ) → live ≢ 0 → owner_by live owner ≢ None
live_not_none live owner h e =
    let some : 0 < live = omega (arith, h) in
    absurd (let is = owner_some live owner some in cc)

pub idle_none : (live owner : ℕ) → live ≡ 0 → owner_by live owner ≡ None
idle_none live owner none = owner_none live owner none

-- its frames are those of a call from outside, once its vector is known to hold them
pub frames_started : (unit : CheckedUnit) (number : ℕ) (arguments : List ℤ) (items frames : List Frame) → items ≡ frames
    → Some (activity unit frames 1) ≡ started unit number arguments → AreStanding unit frames 1 → are_waiting (activity unit frames 1) ≡ true
    → (Some (activity unit items 1) ≡ started unit number arguments) × AreStanding unit items 1 × (are_waiting (activity unit items 1) ≡ true)
frames_started unit number arguments items frames same starts stand wait = (
  ap (λ (fs : List Frame). Some (activity unit fs 1)) same ∙ starts,
  subst (λ (fs : List Frame). AreStanding unit fs 1) (sym same) stand,
  ap (λ (fs : List Frame). are_waiting (activity unit fs 1)) same ∙ wait,
)
