-- From what a frame does in its function to what the frame of the definition does, whatever frames wait below it.
use Rattle.std.proofs.Common.{◌≡◌, ℕ, ℤ, List, [], ◌∷◌, Option, Some, Result, Ok, Err, slice_get, refl, sym, ap, ◌∙◌, subst}
use Rattle.byte_memory.specs.Tested.{Memory}
use Rattle.checked_tree.specs.declared.kernel.Answer.{Answer}
use Rattle.checked_tree.specs.declared.shapes.Scalar.{Scalar}
use Rattle.checked_tree.specs.declared.statements.CheckedStmt.{CheckedStmt, out-CheckedStmt}
use Rattle.checked_tree.specs.declared.stops.Stop.{Stop}
use Rattle.checked_tree.specs.declared.stops.Stop.TheVariants.{Wild}
use Rattle.checked_tree.specs.declared.units.CheckedFn.{CheckedFn}
use Rattle.checked_tree.specs.declared.units.CheckedUnit.{CheckedUnit}
use Rattle.checked_tree.specs.Act as act
use Rattle.checked_tree.specs.Act.{Acted}
use Rattle.checked_tree.specs.Conditions.{State}
use Rattle.checked_tree.specs.Outcome.{Outcome, ◌>>=◌}
use Rattle.checked_tree.specs.Step as step
use Rattle.checked_tree.specs.Step.{Activity, called, entered, first_locals, returned, resumed, answered, line_of, step_of, turned}
use Rattle.driver_machine.specs.declared.turn.Turn.{Turn}
use Rattle.driver_machine.specs.declared.turn.Turn.TheVariants as turn
use Rattle.driver_machine.specs.Acts.{state, turn_of}
use Rattle.driver_machine.specs.Frames.{FrameSteps}
use Rattle.driver_machine.specs.Results.{Resumes, Answers, answered_locals}
use Rattle.driver_machine.specs.declared.frame.Frame.{Frame}
use Rattle.driver_machine.specs.Paths.{todo_at}
use Rattle.driver_machine.specs.Standing.{body_of, standing, TopSteps, CallerGoesOn, AskerGoesOn, Stays, result_of}

-- a frame of the definition by its parts
abbrev pub frame_of : ℕ → List ℤ → List CheckedStmt → step.Frame
frame_of number locals todo = record { function = number; locals = locals; todo = todo }

no_value : {A : Type 0} (e : Stop) (x : A) → ◌≡◌ {A = Outcome A} (Err e) (Ok x) → ⊥
no_value e x h = absurd cc

err_is : {A : Type 0} (d e : Stop) → ◌≡◌ {A = Outcome A} (Err d) (Err e) → d ≡ e
err_is d e h = cc

module _ (unit : CheckedUnit) (f : CheckedFn) (number : ℕ) (is : slice_get unit.functions number ≡ Some f) where
  step_is : (locals : List ℤ) (todo : List CheckedStmt) (m : Memory) (below : Activity)
      → step.step unit (frame_of number locals todo ∷ below) m ≡ step_of [] unit (frame_of number locals todo) below m (Some f) todo
  unfolding step.step step.step_kept
  step_is locals todo m below = ap (λ (o : Option CheckedFn). step_of [] unit (frame_of number locals todo) below m o todo) is

  -- its first statement done
  done_is : (locals : List ℤ) (st : CheckedStmt) (rest : List CheckedStmt) (m : Memory) (below : Activity) (o : Outcome Acted)
      → act.act [] f (state locals m) (out-CheckedStmt st) ≡ o
      → step.step unit (frame_of number locals (st ∷ rest) ∷ below) m
      ≡ (o >>= λ w. turned unit f (frame_of number locals (st ∷ rest)) st rest below w.turn w.state)
  done_is locals st rest m below o h =
      step_is locals (st ∷ rest) m below
      ∙ ap (λ (a : Outcome Acted). a >>= λ w. turned unit f (frame_of number locals (st ∷ rest)) st rest below w.turn w.state) h

  stays : (locals locals' : List ℤ) (todo todo' : List CheckedStmt) (m m' : Memory) → state locals' m' ≡ state locals m → todo' ≡ todo
      → Stays (frame_of number locals todo) m (frame_of number locals' todo') m'
  stays locals locals' todo todo' m m' s t =
      (ap (λ (x : State). frame_of number x.locals todo') s ∙ ap (frame_of number locals) t, ap (λ (x : State). x.memory) s)

  turn_steps : (t : Turn) (locals locals' : List ℤ) (st : CheckedStmt) (rest todo' : List CheckedStmt) (m m' : Memory) (arguments : List ℤ)
      → FrameSteps f (state locals m) (st ∷ rest) (Ok t) (state locals' m') todo' arguments
      → TopSteps unit (frame_of number locals (st ∷ rest)) m (Ok t) (frame_of number locals' todo') m' arguments
  turn_steps turn.On locals locals' st rest todo' m m' arguments h = λ below.
      done_is locals st rest m below _ h.0
      ∙ ap (λ (l : List CheckedStmt). Ok (step.Went (frame_of number locals' l ∷ below) m')) (sym h.2)
  turn_steps (turn.Into holds) locals locals' st rest todo' m m' arguments h = λ below.
      done_is locals st rest m below _ h.0
      ∙ ap (λ (l : List CheckedStmt). Ok (step.Went (frame_of number locals' l ∷ below) m')) (sym h.2)
  turn_steps (turn.Calls callee) locals locals' st rest todo' m m' arguments h =
      let same = stays locals locals' (st ∷ rest) todo' m m' h.1 h.2 in (
        (λ below. done_is locals st rest m below _ h.0
            ∙ ap (λ (n : Memory). called (line_of (out-CheckedStmt st)) callee arguments (slice_get unit.functions callee) (frame_of number locals (st ∷ rest) ∷ below) n) same.1),
        same,
      )
  turn_steps (turn.Asks call) locals locals' st rest todo' m m' arguments h =
      ((λ below. done_is locals st rest m below _ h.0), stays locals locals' (st ∷ rest) todo' m m' h.1 h.2)
  turn_steps (turn.Returns value) locals locals' st rest todo' m m' arguments h =
      let same = stays locals locals' (st ∷ rest) todo' m m' h.1 h.2 in (
        (λ below. done_is locals st rest m below _ h.0
            ∙ (ap (λ (n : Memory). returned f.result below n value) same.1
            ∙ ap (λ (o : Option CheckedFn). returned (result_of o) below m value) (sym is))),
        same,
      )

  pub top_steps : (result : Result Turn Stop) (locals locals' : List ℤ) (todo todo' : List CheckedStmt) (m m' : Memory) (arguments : List ℤ)
      → FrameSteps f (state locals m) todo result (state locals' m') todo' arguments
      → TopSteps unit (frame_of number locals todo) m result (frame_of number locals' todo') m' arguments
  top_steps (Ok t) locals locals' [] todo' m m' arguments h = absurd (no_value Wild (record { state = state locals' m'; turn = turn_of t arguments }) h.0)
  top_steps (Ok t) locals locals' (st ∷ rest) todo' m m' arguments h = turn_steps t locals locals' st rest todo' m m' arguments h
  top_steps (Err e) locals locals' [] todo' m m' arguments h =
      ((λ below. step_is locals [] m below ∙ ap (λ (x : Stop). Err x) (err_is {A = Acted} Wild e h.0)), stays locals locals' [] todo' m m' h.1 h.2)
  top_steps (Err e) locals locals' (st ∷ rest) todo' m m' arguments h =
      ((λ below. done_is locals st rest m below _ h.0), stays locals locals' (st ∷ rest) todo' m m' h.1 h.2)

-- ---- behind a call
same_frame : (number : ℕ) (old new : List ℤ) (todo todo' : List CheckedStmt) → new ≡ old → todo' ≡ todo → frame_of number new todo' ≡ frame_of number old todo
same_frame number old new todo todo' n t = ap (λ (l : List ℤ). frame_of number l todo') n ∙ ap (frame_of number old) t

pub caller_goes_on : (number : ℕ) (scalar : Scalar) (value : Option ℤ) (result : Result (Unit {0}) Stop) (old new : List ℤ) (todo todo' : List CheckedStmt)
    → Resumes scalar value old todo result new todo'
    → CallerGoesOn scalar value (frame_of number old todo) result (frame_of number new todo')
caller_goes_on number scalar value (Ok x) old new [] todo' h = λ below m. absurd (no_value Wild (state new m) (h.0 m))
caller_goes_on number scalar value (Ok x) old new (st ∷ rest) todo' h = λ below m.
    ap (λ (o : Outcome State). o >>= resumed (frame_of number old (st ∷ rest)) st rest below m) (h.0 m)
    ∙ ap (λ (l : List CheckedStmt). Ok (step.Went (frame_of number new l ∷ below) m)) (sym h.1)
caller_goes_on number scalar value (Err e) old new [] todo' h =
    ((λ below m. ap (λ (x : Stop). Err x) (err_is {A = State} Wild e (h.0 m))), same_frame number old new [] todo' h.1 h.2)
caller_goes_on number scalar value (Err e) old new (st ∷ rest) todo' h = (
  (λ below m. ap (λ (o : Outcome State). o >>= resumed (frame_of number old (st ∷ rest)) st rest below m) (h.0 m)),
  same_frame number old new (st ∷ rest) todo' h.1 h.2,
)

-- ---- behind the kernel's answer
pub asker_goes_on : (number : ℕ) (reply : Answer) (old new : List ℤ) (todo todo' : List CheckedStmt) → Answers reply old todo new todo'
    → AskerGoesOn reply (frame_of number old todo) (frame_of number new todo')
unfolding answered
asker_goes_on number reply old new [] todo' h = λ below. ap (λ (x : step.Frame). x ∷ below) (sym (same_frame number old new [] todo' h.0 h.1))
asker_goes_on number reply old new (st ∷ rest) todo' h = λ below.
    ap (λ (x : step.Frame). x ∷ below) (sym (same_frame number (answered_locals old (st ∷ rest) reply) new rest todo' h.0 h.1))

-- ---- a frame in its function
standing_is : (unit : CheckedUnit) (f : CheckedFn) (fr : Frame) (number : ℕ) → slice_get unit.functions number ≡ Some f → fr.function ≡ number
    → standing unit fr ≡ frame_of number fr.locals.items (todo_at f.body fr.position.path.items fr.position.at)
unfolding standing
standing_is unit f fr number is same =
    ap (λ (n : ℕ). frame_of n fr.locals.items (todo_at (body_of (slice_get unit.functions n)) fr.position.path.items fr.position.at)) same
    ∙ ap (λ (o : Option CheckedFn). frame_of number fr.locals.items (todo_at (body_of o) fr.position.path.items fr.position.at)) is

pub entered_stands : (unit : CheckedUnit) (number : ℕ) (f : CheckedFn) (values : List ℤ) (fr : Frame) → slice_get unit.functions number ≡ Some f
    → fr.function ≡ number → fr.locals.items ≡ first_locals f values → todo_at f.body fr.position.path.items fr.position.at ≡ f.body
    → standing unit fr ≡ entered number values f
entered_stands unit number f values fr is same locals todo =
    standing_is unit f fr number is same
    ∙ (ap (λ (l : List ℤ). frame_of number l (todo_at f.body fr.position.path.items fr.position.at)) locals ∙ ap (frame_of number (first_locals f values)) todo)

module _ (unit : CheckedUnit) (f : CheckedFn) (fr fr' : Frame) (is : Some f ≡ slice_get unit.functions fr.function) (same : fr'.function ≡ fr.function) where
  abbrev todo : Frame → List CheckedStmt
  todo x = todo_at f.body x.position.path.items x.position.at

  old_is : frame_of fr.function fr.locals.items (todo fr) ≡ standing unit fr
  old_is = sym (standing_is unit f fr fr.function (sym is) refl)

  new_is : frame_of fr.function fr'.locals.items (todo fr') ≡ standing unit fr'
  new_is = sym (standing_is unit f fr' fr.function (sym is) same)

  pub steps_in : (m m' : Memory) (result : Result Turn Stop) (arguments : List ℤ)
      → FrameSteps f (state fr.locals.items m) (todo_at f.body fr.position.path.items fr.position.at) result
      (state fr'.locals.items m') (todo_at f.body fr'.position.path.items fr'.position.at) arguments
      → TopSteps unit (standing unit fr) m result (standing unit fr') m' arguments
  steps_in m m' result arguments h =
      subst (λ (x : step.Frame). TopSteps unit x m result (standing unit fr') m' arguments) old_is
      (subst (λ (x : step.Frame). TopSteps unit (frame_of fr.function fr.locals.items (todo fr)) m result x m' arguments) new_is
      (top_steps unit f fr.function (sym is) result fr.locals.items fr'.locals.items (todo fr) (todo fr') m m' arguments h))

  pub resumes_in : (scalar : Scalar) (value : Option ℤ) (result : Result (Unit {0}) Stop)
      → Resumes scalar value fr.locals.items (todo_at f.body fr.position.path.items fr.position.at) result
      fr'.locals.items (todo_at f.body fr'.position.path.items fr'.position.at)
      → CallerGoesOn scalar value (standing unit fr) result (standing unit fr')
  resumes_in scalar value result h =
      subst (λ (x : step.Frame). CallerGoesOn scalar value x result (standing unit fr')) old_is
      (subst (λ (x : step.Frame). CallerGoesOn scalar value (frame_of fr.function fr.locals.items (todo fr)) result x) new_is
      (caller_goes_on fr.function scalar value result fr.locals.items fr'.locals.items (todo fr) (todo fr') h))

  pub answers_in : (reply : Answer)
      → Answers reply fr.locals.items (todo_at f.body fr.position.path.items fr.position.at)
      fr'.locals.items (todo_at f.body fr'.position.path.items fr'.position.at)
      → AskerGoesOn reply (standing unit fr) (standing unit fr')
  answers_in reply h =
      subst (λ (x : step.Frame). AskerGoesOn reply x (standing unit fr')) old_is
      (subst (λ (x : step.Frame). AskerGoesOn reply (frame_of fr.function fr.locals.items (todo fr)) x) new_is
      (asker_goes_on fr.function reply fr.locals.items fr'.locals.items (todo fr) (todo fr') h))
