-- What a step of the top frame, a call and a return come to, for the frames of a task.
use Rattle.std.proofs.Common.{◌≡◌, ℕ, ◌+◌, ◌≤◌, ◌<◌, nat_lt, Bool, true, false, if◌then◌else◌, List, [], ◌∷◌, length, ℤ, All, Option, Some, Ok, Err, slice_get, slice_set, refl, sym, ap, ◌∙◌, subst, arith}
use Rattle.std.proofs.lemmas.Bool.Decides.{nat_tests}
use Rattle.std.proofs.lemmas.List.Elements.{All-contains}
use Rattle.std.proofs.lemmas.Option.{slice_get_within, unwrap_or-slice_get}
use Rattle.std.specs.Prelude.{unwrap_or}
use Rattle.byte_memory.specs.Tested.{Memory}
use Rattle.sd_base.specs.declared.kinds.FailKind.TheVariants as fail
use Rattle.checked_tree.specs.declared.kernel.Answer.{Answer}
use Rattle.checked_tree.specs.declared.kernel.KernelCall.{KernelCall}
use Rattle.checked_tree.specs.declared.shapes.Scalar.{Scalar}
use Rattle.checked_tree.specs.declared.stops.Stop.{Stop}
use Rattle.checked_tree.specs.declared.stops.Stop.TheVariants.{Failed, Wild}
use Rattle.checked_tree.specs.declared.units.CheckedFn.{CheckedFn}
use Rattle.checked_tree.specs.declared.units.CheckedUnit.{CheckedUnit}
use Rattle.checked_tree.specs.Outcome.{Outcome}
use Rattle.checked_tree.specs.Step as step
use Rattle.checked_tree.specs.Step.{Activity, answered, called, converted_arguments, entered, returned, line_at, started, started_by}
use Rattle.driver_machine.specs.declared.frame.Frame.{Frame}
use Rattle.driver_machine.specs.declared.step_out.StepOut.{StepOut}
use Rattle.driver_machine.specs.declared.step_out.StepOut.TheVariants as out_form
use Rattle.safe_code.specs.Runnable.{IsRunnable}
use Rattle.driver_machine.specs.Standing.{standing, IsStanding, Stays, AskerGoesOn, CallerGoesOn, result_of}
use Rattle.driver_machine.specs.Tasks.{activity, AreStanding, stopped, ComesTo}
use Rattle.driver_machine.proofs.Activities.{activity_below, activity_top, activity_length, set_top, stand_top, standing_top, same_activity}

pub runnable_at : (fs : List CheckedFn) (k : ℕ) (f : CheckedFn) → All IsRunnable fs → Some f ≡ slice_get fs k → IsRunnable f
runnable_at fs k f all is =
    All-contains IsRunnable fs f all (k, slice_get_within fs k f (sym is), sym (unwrap_or-slice_get fs k f) ∙ ap (λ (o : Option CheckedFn). unwrap_or o f) (sym is))

at_most : (n : ℕ) → 64 ≤ n → nat_lt n 64 ≡ false
at_most n h = grind (arith, nat_tests)

fewer : (n : ℕ) → n < 64 → nat_lt n 64 ≡ true
fewer n h = grind (arith, nat_tests)

-- what an outcome comes to is the same for what is equal
pub comes_same : (o o' : Outcome step.Next) (a a' : Activity) (m n : Memory) (out : StepOut) (b : Activity) (k : Memory) → o ≡ o' → a ≡ a' → m ≡ n
    → ComesTo o' a' n out b k → ComesTo o a m out b k
comes_same o o' a a' m n out b k eo ea em h =
    subst (λ (x : Outcome step.Next). ComesTo x a m out b k) (sym eo)
    (subst (λ (x : Activity). ComesTo o' x m out b k) (sym ea) (subst (λ (x : Memory). ComesTo o' a' x out b k) (sym em) h))

-- a stop
pub stop_comes : (e : Stop) (line : ℕ) (o : Outcome step.Next) (a b : Activity) (m n : Memory) → o ≡ Err e → b ≡ a → n ≡ m → line ≡ step.line a
    → ComesTo o a m (stopped e line) b n
stop_comes (Failed at kind) line o a b m n stops same left at_line = (stops, same, left)
stop_comes Wild line o a b m n stops same left at_line = (stops, at_line, same, left)

module _ (unit : CheckedUnit) where
  -- ---- a call
  call_is : (number : ℕ) (f : CheckedFn) (line : ℕ) (values : List ℤ) (a : Activity) (m : Memory) (b : Bool) → Some f ≡ slice_get unit.functions number
      → nat_lt (length a) 64 ≡ b
      → called line number values (slice_get unit.functions number) a m
      ≡ (if b then Ok (step.Went (entered number values f ∷ a) m) else Err (Failed line fail.Stack))
  call_is number f line values a m b is full =
      ap (λ (o : Option CheckedFn). called line number values o a m) (sym is)
      ∙ ap (λ (c : Bool). if c then Ok (step.Went (entered number values f ∷ a) m) else Err (Failed line fail.Stack)) full

  pub call_full : (frames : List Frame) (live line number : ℕ) (values : List ℤ) (f : CheckedFn) → Some f ≡ slice_get unit.functions number
      → length frames ≡ 64 → live ≤ 64 → 64 ≤ live → (m : Memory)
      → called line number values (slice_get unit.functions number) (activity unit frames live) m ≡ Err (Failed line fail.Stack)
  call_full frames live line number values f is long few full m =
      let count = activity_length unit frames live (omega arith) in
      call_is number f line values (activity unit frames live) m false is (at_most (length (activity unit frames live)) (omega (arith, count, full)))

  pub call_made : (frames : List Frame) (live line number : ℕ) (values : List ℤ) (f : CheckedFn) (x : Frame) → Some f ≡ slice_get unit.functions number
      → length frames ≡ 64 → live < 64 → standing unit x ≡ entered number values f → (m : Memory)
      → called line number values (slice_get unit.functions number) (activity unit frames live) m
      ≡ Ok (step.Went (activity unit (slice_set frames live x) (live + 1)) m)
  call_made frames live line number values f x is long few same m =
      let count = activity_length unit frames live (omega arith) in
      let top = set_top unit frames (live + 1) live x refl (omega (arith, long, few)) in
      call_is number f line values (activity unit frames live) m true is (fewer (length (activity unit frames live)) (omega (arith, count, few)))
      ∙ ap (λ (a : Activity). Ok (step.Went a m)) (ap (λ (e : step.Frame). e ∷ activity unit frames live) (sym same) ∙ sym top)

  pub call_stands : (frames : List Frame) (live : ℕ) (x : Frame) → length frames ≡ 64 → live < 64 → IsStanding unit x → AreStanding unit frames live
      → AreStanding unit (slice_set frames live x) (live + 1)
  call_stands frames live x long few one all = stand_top unit frames (live + 1) live x refl (omega (arith, long, few)) one all

  -- ---- a return
  pub no_frames : (frames : List Frame) → activity unit frames 0 ≡ []
  unfolding activity
  no_frames frames = refl

  pub none_standing : (frames : List Frame) → AreStanding unit frames 0
  unfolding AreStanding
  none_standing frames = tt

  pub nothing_below : (frames : List Frame) (top : ℕ) (scalar : Scalar) (value : Option ℤ) → top ≡ 0 → (m : Memory)
      → returned scalar (activity unit frames top) m value ≡ Ok (step.Ended value)
  nothing_below frames top scalar value none m =
      ap (λ (n : ℕ). returned scalar (activity unit frames n) m value) none ∙ ap (λ (a : Activity). returned scalar a m value) (no_frames frames)

  pub caller_on : (frames : List Frame) (top k : ℕ) (x x' : Frame) (scalar : Scalar) (value : Option ℤ) → top ≡ k + 1 → k < length frames
      → slice_get frames k ≡ Some x → CallerGoesOn scalar value (standing unit x) (Ok tt) (standing unit x') → (m : Memory)
      → returned scalar (activity unit frames top) m value ≡ Ok (step.Went (activity unit (slice_set frames k x') top) m)
  caller_on frames top k x x' scalar value more l is goes m =
      ap (λ (a : Activity). returned scalar a m value) (activity_top unit frames top k x more is)
      ∙ (goes (activity unit frames k) m ∙ ap (λ (a : Activity). Ok (step.Went a m)) (sym (set_top unit frames top k x' more l)))

  pub caller_stopped : (frames : List Frame) (top k : ℕ) (x x' : Frame) (scalar : Scalar) (value : Option ℤ) (e : Stop) → top ≡ k + 1
      → slice_get frames k ≡ Some x → CallerGoesOn scalar value (standing unit x) (Err e) (standing unit x') → (m : Memory)
      → returned scalar (activity unit frames top) m value ≡ Err e
  caller_stopped frames top k x x' scalar value e more is stops m =
      ap (λ (a : Activity). returned scalar a m value) (activity_top unit frames top k x more is) ∙ stops.0 (activity unit frames k) m

  -- ---- no frame
  idle_is : (frames : List Frame) (live : ℕ) → live ≡ 0 → activity unit frames live ≡ []
  idle_is frames live none = ap (activity unit frames) none ∙ no_frames frames

  pub idle_steps : (frames : List Frame) (live : ℕ) (m : Memory) → live ≡ 0
      → ComesTo (step.step unit (activity unit frames live) m) (activity unit frames live) m (out_form.Wild 0) (activity unit frames live) m
  unfolding step.step step.step_kept
  idle_steps frames live m none =
      let empty = idle_is frames live none in
      (ap (λ (a : Activity). step.step unit a m) empty, sym (ap step.line empty), refl, refl)

  pub idle_line : (frames : List Frame) (live : ℕ) → live ≡ 0 → 0 ≡ step.line (activity unit frames live)
  idle_line frames live none = sym (ap step.line (idle_is frames live none))

  pub idle_answer : (frames : List Frame) (live : ℕ) (reply : Answer) → live ≡ 0 → activity unit frames live ≡ answered (activity unit frames live) reply
  unfolding answered
  idle_answer frames live reply none =
      let empty = idle_is frames live none in
      empty ∙ sym (ap (λ (a : Activity). answered a reply) empty)

  -- ---- the first frame
  first_is : (frames : List Frame) (x : Frame) → 0 < length frames → activity unit (slice_set frames 0 x) 1 ≡ standing unit x ∷ []
  first_is frames x l = set_top unit frames 1 0 x refl l ∙ ap (λ (a : Activity). standing unit x ∷ a) (no_frames frames)

  pub start_made : (frames : List Frame) (x : Frame) (number : ℕ) (arguments values : List ℤ) (f : CheckedFn) → Some f ≡ slice_get unit.functions number
      → length frames ≡ 64 → standing unit x ≡ entered number values f → values ≡ converted_arguments arguments f.slots
      → Some (activity unit (slice_set frames 0 x) 1) ≡ started unit number arguments
  unfolding started
  start_made frames x number arguments values f is long enters same =
      ap (λ (a : Activity). Some a)
      (first_is frames x (omega (arith, long))
      ∙ ap (λ (e : step.Frame). e ∷ []) (enters ∙ ap (λ (v : List ℤ). entered number v f) same))
      ∙ ap (λ (o : Option CheckedFn). started_by number arguments o) is

  pub start_stands : (frames : List Frame) (x : Frame) → length frames ≡ 64 → IsStanding unit x → AreStanding unit (slice_set frames 0 x) 1
  start_stands frames x long one = stand_top unit frames 1 0 x refl (omega (arith, long)) one (none_standing frames)

  -- ---- the kernel's answer
  pub top_answered : (frames : List Frame) (live top : ℕ) (x x' : Frame) (reply : Answer) → live ≡ top + 1 → top < length frames → slice_get frames top ≡ Some x
      → AskerGoesOn reply (standing unit x) (standing unit x')
      → activity unit (slice_set frames top x') live ≡ answered (activity unit frames live) reply
  top_answered frames live top x x' reply more there is goes =
      set_top unit frames live top x' more there
      ∙ (sym (goes (activity unit frames top)) ∙ ap (λ (a : Activity). answered a reply) (sym (activity_top unit frames live top x more is)))

  -- ---- the step of the top frame
  module _ (frames : List Frame) (live top : ℕ) (x x' : Frame) (more : live ≡ top + 1) (there : top < length frames) (is : slice_get frames top ≡ Some x) where
    pub top_line : step.line (activity unit frames live) ≡ line_at (standing unit x).todo
    top_line = ap step.line (activity_top unit frames live top x more is)

    pub new_line : step.line (activity unit (slice_set frames top x') live) ≡ line_at (standing unit x').todo
    new_line = ap step.line (set_top unit frames live top x' more there)

    pub top_stands : AreStanding unit frames live → IsStanding unit x
    top_stands all = (standing_top unit frames live top x more is all).0

    pub new_stands : IsStanding unit x' → AreStanding unit frames live → AreStanding unit (slice_set frames top x') live
    new_stands one all = stand_top unit frames live top x' more there one (standing_top unit frames live top x more is all).1

    pub top_went : (m m' : Memory) → ((below : Activity) → step.step unit (standing unit x ∷ below) m ≡ Ok (step.Went (standing unit x' ∷ below) m'))
        → step.step unit (activity unit frames live) m ≡ Ok (step.Went (activity unit (slice_set frames top x') live) m')
    top_went m m' goes =
        ap (λ (a : Activity). step.step unit a m) (activity_top unit frames live top x more is)
        ∙ (goes (activity unit frames top) ∙ ap (λ (a : Activity). Ok (step.Went a m')) (sym (set_top unit frames live top x' more there)))

    step_is : (m : Memory) (o : Outcome step.Next) → step.step unit (standing unit x ∷ activity unit frames top) m ≡ o → step.step unit (activity unit frames live) m ≡ o
    step_is m o h = ap (λ (a : Activity). step.step unit a m) (activity_top unit frames live top x more is) ∙ h

    as_before : standing unit x' ≡ standing unit x → activity unit (slice_set frames top x') live ≡ activity unit frames live
    as_before same = same_activity unit frames top x x' live is same

    pub top_asks : (m m' : Memory) (call : KernelCall)
        → ((below : Activity) → step.step unit (standing unit x ∷ below) m ≡ Ok (step.Wants (standing unit x ∷ below) call)) × Stays (standing unit x) m (standing unit x') m'
        → (step.step unit (activity unit frames live) m ≡ Ok (step.Wants (activity unit (slice_set frames top x') live) call))
        × (activity unit (slice_set frames top x') live ≡ activity unit frames live) × (m' ≡ m)
    top_asks m m' call h =
        let same = as_before h.1.0 in (
          step_is m (Ok (step.Wants (standing unit x ∷ activity unit frames top) call)) (h.0 (activity unit frames top))
              ∙ ap (λ (a : Activity). Ok (step.Wants a call)) (sym (activity_top unit frames live top x more is) ∙ sym same),
          same,
          h.1.1,
        )

    pub top_stops : (m m' : Memory) (e : Stop) (line : ℕ)
        → ((below : Activity) → step.step unit (standing unit x ∷ below) m ≡ Err e) × Stays (standing unit x) m (standing unit x') m'
        → line ≡ line_at (standing unit x').todo
        → ComesTo (step.step unit (activity unit frames live) m) (activity unit frames live) m (stopped e line) (activity unit (slice_set frames top x') live) m'
    top_stops m m' e line h at =
        stop_comes e line (step.step unit (activity unit frames live) m) (activity unit frames live) (activity unit (slice_set frames top x') live) m m'
        (step_is m (Err e) (h.0 (activity unit frames top))) (as_before h.1.0) h.1.1
        (at ∙ (ap (λ (f : step.Frame). line_at f.todo) h.1.0 ∙ sym top_line))

    pub top_calls : (m m' : Memory) (number line : ℕ) (arguments : List ℤ) (out : StepOut) (b : Activity)
        → ((below : Activity) → step.step unit (standing unit x ∷ below) m
        ≡ called (line_at (standing unit x).todo) number arguments (slice_get unit.functions number) (standing unit x ∷ below) m)
        × Stays (standing unit x) m (standing unit x') m'
        → line ≡ line_at (standing unit x').todo
        → ((k : Memory) → ComesTo (called line number arguments (slice_get unit.functions number) (activity unit (slice_set frames top x') live) k)
        (activity unit (slice_set frames top x') live) k out b k)
        → ComesTo (step.step unit (activity unit frames live) m) (activity unit frames live) m out b m'
    top_calls m m' number line arguments out b h at comes =
        let same = as_before h.1.0 in
        let lines : line ≡ line_at (standing unit x).todo = at ∙ ap (λ (f : step.Frame). line_at f.todo) h.1.0 in
        let calls : step.step unit (activity unit frames live) m
        ≡ called line number arguments (slice_get unit.functions number) (activity unit (slice_set frames top x') live) m' =
        step_is m (called (line_at (standing unit x).todo) number arguments (slice_get unit.functions number) (standing unit x ∷ activity unit frames top) m)
        (h.0 (activity unit frames top))
        ∙ (ap (λ (l : ℕ). called l number arguments (slice_get unit.functions number) (standing unit x ∷ activity unit frames top) m) (sym lines)
        ∙ (ap (λ (a : Activity). called line number arguments (slice_get unit.functions number) a m)
        (sym (activity_top unit frames live top x more is) ∙ sym same)
        ∙ ap (λ (k : Memory). called line number arguments (slice_get unit.functions number) (activity unit (slice_set frames top x') live) k) (sym h.1.1))) in
        comes_same (step.step unit (activity unit frames live) m)
        (called line number arguments (slice_get unit.functions number) (activity unit (slice_set frames top x') live) m')
        (activity unit frames live) (activity unit (slice_set frames top x') live) m m' out b m' calls (sym same) (sym h.1.1) (comes m')

    pub top_returns : (m m' : Memory) (scalar : Scalar) (value : Option ℤ) (out : StepOut) (b : Activity)
        → ((below : Activity) → step.step unit (standing unit x ∷ below) m ≡ returned (result_of (slice_get unit.functions (standing unit x).function)) below m value)
        × Stays (standing unit x) m (standing unit x') m'
        → scalar ≡ result_of (slice_get unit.functions (standing unit x').function)
        → ((k : Memory) → ComesTo (returned scalar (activity unit (slice_set frames top x') top) k value)
        (activity unit (slice_set frames top x') live) k out b k)
        → ComesTo (step.step unit (activity unit frames live) m) (activity unit frames live) m out b m'
    top_returns m m' scalar value out b h gives comes =
        let same = as_before h.1.0 in
        let scalars : scalar ≡ result_of (slice_get unit.functions (standing unit x).function) =
        gives ∙ ap (λ (f : step.Frame). result_of (slice_get unit.functions f.function)) h.1.0 in
        let ends : step.step unit (activity unit frames live) m ≡ returned scalar (activity unit (slice_set frames top x') top) m' value =
        step_is m (returned (result_of (slice_get unit.functions (standing unit x).function)) (activity unit frames top) m value) (h.0 (activity unit frames top))
        ∙ (ap (λ (s : Scalar). returned s (activity unit frames top) m value) (sym scalars)
        ∙ (ap (λ (a : Activity). returned scalar a m value) (sym (activity_below unit frames top top x' (omega arith)))
        ∙ ap (λ (k : Memory). returned scalar (activity unit (slice_set frames top x') top) k value) (sym h.1.1))) in
        comes_same (step.step unit (activity unit frames live) m) (returned scalar (activity unit (slice_set frames top x') top) m' value)
        (activity unit frames live) (activity unit (slice_set frames top x') live) m m' out b m' ends (sym same) (sym h.1.1) (comes m')
