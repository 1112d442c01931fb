-- A step keeps that each frame below the top one waits in a call of the function of the frame above it, and an activity that goes on has frames.
use Rattle.std.proofs.Common.{◌≡◌, ℕ, nat_lt, ◌==◌, Bool, true, false, ◌&&◌, if◌then◌else◌, List, [], ◌∷◌, length, ℤ, Option, Some, None, Ok, Err, slice_get, refl, ap, ◌∙◌, subst, arith}
use Rattle.std.proofs.lemmas.Bool.{and_parts}
use Rattle.std.proofs.lemmas.Bool.Decides.{nat_tests}
use Rattle.byte_memory.specs.Tested.{Memory}
use Rattle.sd_base.specs.declared.kinds.FailKind.TheVariants as fail
use Rattle.checked_tree.specs.declared.kernel.Answer.{Answer}
use Rattle.checked_tree.specs.declared.shapes.Scalar.{Scalar}
use Rattle.checked_tree.specs.declared.statements.CheckedStmt.{CheckedStmt, out-CheckedStmt}
use Rattle.checked_tree.specs.declared.statements.CheckedStmt.TheOpen as S
use Rattle.checked_tree.specs.declared.stops.Stop.{Stop}
use Rattle.checked_tree.specs.declared.stops.Stop.TheVariants.{Failed}
use Rattle.checked_tree.specs.declared.units.CheckedFn.{CheckedFn}
use Rattle.checked_tree.specs.declared.units.CheckedUnit.{CheckedUnit}
use Rattle.checked_tree.specs.Act.{Acted, Turn, On, Into, Calls, Asks, Returns, act, goes_on, turns, remembers, with_local, with_pointer, kernel_call}
use Rattle.checked_tree.specs.Conditions.{State}
use Rattle.checked_tree.specs.Eval.{Keep, eval, tests}
use Rattle.checked_tree.specs.Memory.{store, cleared}
use Rattle.checked_tree.specs.Numbers.{holds}
use Rattle.checked_tree.specs.Operands.{operand, taken, arguments, optional_operand, optional_argument}
use Rattle.checked_tree.specs.Outcome.{Outcome, ◌>>=◌}
use Rattle.checked_tree.specs.Step.{Frame, Activity, Next, Went, Wants, Ended, state_of, called, entered, resume, resumed, returned, turned, step_of, step, step_kept, line_of, target_of, with_returned, answered, answered_by, answer_set, picked}
use Rattle.driver_machine.specs.Waiting.{is_call_of, calls_first, waits_for, are_waiting}

-- ---- what holds of each value of an outcome
abbrev Only : {A : Type 0} → (A → Type 0) → Outcome A → Type 0
Only P (Ok a) = P a
Only P (Err e) = Unit {0}

only_bind : {A B : Type 0} (P : B → Type 0) (r : Outcome A) (g : A → Outcome B) → ((a : A) → Only P (g a)) → Only P (r >>= g)
only_bind P (Ok a) g h = h a
only_bind P (Err e) g h = tt

only_at : {A : Type 0} (P : A → Type 0) (r : Outcome A) (a : A) → Only P r → r ≡ Ok a → P a
only_at P (Ok b) a h e = let same : b ≡ a = cc in subst P same h
only_at P (Err d) a h e = absurd cc

same_number : (n : ℕ) → (n == n) ≡ true
same_number n = grind (arith, nat_tests)

-- ---- a call is made by a statement that calls
abbrev Suits : S.CheckedStmt-F CheckedStmt → Turn → Type 0
Suits y (Calls number values) = is_call_of number y ≡ true
Suits y _ = Unit {0}

abbrev suits : S.CheckedStmt-F CheckedStmt → Acted → Type 0
suits y w = Suits y w.turn

on_remembers : (y : S.CheckedStmt-F CheckedStmt) (s : State) (o : Outcome Memory) → Only (suits y) (o >>= remembers s)
on_remembers y s o = only_bind (suits y) o (remembers s) (λ m. tt)

module _ (keep : Keep) (f : CheckedFn) (s : State) where
  -- behind checks nothing but a turn, or a change and on
  tested : (y : S.CheckedStmt-F CheckedStmt) (checks : List ℕ) (w : Acted) → suits y w → Only (suits y) (tests keep f s checks >>= λ _. Ok w)
  tested y checks w h = only_bind (suits y) (tests keep f s checks) (λ x. Ok w) (λ x. h)

  stored : (y : S.CheckedStmt-F CheckedStmt) (scalar : Scalar) (v a : ℤ) (checks : List ℕ)
      → Only (suits y) (tests keep f s checks >>= λ _. taken scalar v >>= λ w. store s.memory scalar a w >>= remembers s)
  stored y scalar v a checks =
      only_bind (suits y) (tests keep f s checks) (λ x. taken scalar v >>= λ w. store s.memory scalar a w >>= remembers s)
      (λ x. only_bind (suits y) (taken scalar v) (λ w. store s.memory scalar a w >>= remembers s)
      (λ w. on_remembers y s (store s.memory scalar a w)))

  act_suits : (y : S.CheckedStmt-F CheckedStmt) → Only (suits y) (act keep f s y)
  unfolding act
  act_suits (S.Empty line) = tt
  act_suits (S.Assign line slot scalar value checks) =
      only_bind (suits (S.Assign line slot scalar value checks)) (eval keep f s value)
      (λ v. tests keep f s checks >>= λ _. taken scalar v >>= λ w. goes_on (with_local s slot w))
      (λ v. only_bind (suits (S.Assign line slot scalar value checks)) (tests keep f s checks)
      (λ x. taken scalar v >>= λ w. goes_on (with_local s slot w))
      (λ x. only_bind (suits (S.Assign line slot scalar value checks)) (taken scalar v) (λ w. goes_on (with_local s slot w)) (λ w. tt)))
  act_suits (S.AssignAutomatic line slot hidden value checks) =
      only_bind (suits (S.AssignAutomatic line slot hidden value checks)) (operand keep f s value)
      (λ p. tests keep f s checks >>= λ _. goes_on (with_pointer s slot hidden p))
      (λ p. tested (S.AssignAutomatic line slot hidden value checks) checks (record { state = with_pointer s slot hidden p; turn = On }) tt)
  act_suits (S.Store line scalar place value checks) =
      only_bind (suits (S.Store line scalar place value checks)) (eval keep f s value)
      (λ v. eval keep f s place >>= λ a. tests keep f s checks >>= λ _. taken scalar v >>= λ w. store s.memory scalar a w >>= remembers s)
      (λ v. only_bind (suits (S.Store line scalar place value checks)) (eval keep f s place)
      (λ a. tests keep f s checks >>= λ _. taken scalar v >>= λ w. store s.memory scalar a w >>= remembers s)
      (λ a. stored (S.Store line scalar place value checks) scalar v a checks))
  act_suits (S.Zero line place size) =
      only_bind (suits (S.Zero line place size)) (eval keep f s place) (λ a. cleared s.memory a size >>= remembers s)
      (λ a. on_remembers (S.Zero line place size) s (cleared s.memory a size))
  act_suits (S.Call line target function values checks) =
      only_bind (suits (S.Call line target function values checks)) (arguments keep f s values)
      (λ vs. tests keep f s checks >>= λ _. turns s (Calls function vs))
      (λ vs. tested (S.Call line target function values checks) checks (record { state = s; turn = Calls function vs }) (same_number function))
  act_suits (S.Kernel line target name values pointer function elem size) =
      only_bind (suits (S.Kernel line target name values pointer function elem size)) (arguments keep f s values)
      (λ vs. optional_operand keep f s pointer >>= λ p. turns s (Asks (kernel_call name function elem size vs p)))
      (λ vs. only_bind (suits (S.Kernel line target name values pointer function elem size)) (optional_operand keep f s pointer)
      (λ p. turns s (Asks (kernel_call name function elem size vs p))) (λ p. tt))
  act_suits (S.Return line value checks) =
      only_bind (suits (S.Return line value checks)) (optional_argument keep f s value)
      (λ v. tests keep f s checks >>= λ _. turns s (Returns v))
      (λ v. tested (S.Return line value checks) checks (record { state = s; turn = Returns v }) tt)
  act_suits (S.If line test first second) =
      only_bind (suits (S.If line test first second)) (eval keep f s test) (λ v. turns s (Into (holds v))) (λ v. tt)
  act_suits (S.While line test body) =
      only_bind (suits (S.While line test body)) (eval keep f s test) (λ v. turns s (Into (holds v))) (λ v. tt)

-- ---- a step
abbrev pub has_frames : Activity → Bool
has_frames [] = false
has_frames (top ∷ below) = true

abbrev NextWaits : Next → Type 0
NextWaits (Went frames m) = (are_waiting frames ≡ true) × (has_frames frames ≡ true)
NextWaits (Wants frames call) = are_waiting frames ≡ true
NextWaits (Ended value) = Unit {0}

top_waits : (top : Frame) (below : Activity) → are_waiting (top ∷ below) ≡ true → (waits_for top.function below ≡ true) × (are_waiting below ≡ true)
unfolding are_waiting
top_waits top below h = and_parts (waits_for top.function below) (are_waiting below) h

both : (a b : Bool) → a ≡ true → b ≡ true → (a && b) ≡ true
both true true ha hb = refl
both true false ha hb = absurd cc
both false b ha hb = absurd cc

waits_again : (top : Frame) (below : Activity) → waits_for top.function below ≡ true → are_waiting below ≡ true → are_waiting (top ∷ below) ≡ true
unfolding are_waiting
waits_again top below a b = both (waits_for top.function below) (are_waiting below) a b

-- a caller that goes on
resume_waits : (scalar : Scalar) (caller : Frame) (todo : List CheckedStmt) (below : Activity) (m : Memory) (value : Option ℤ)
    → are_waiting (caller ∷ below) ≡ true → Only NextWaits (resume scalar caller todo below m value)
resume_waits scalar caller [] below m value h = tt
resume_waits scalar caller (st ∷ rest) below m value h =
    let parts = top_waits caller below h in
    only_bind NextWaits (with_returned scalar (state_of caller m) (target_of (out-CheckedStmt st)) value) (resumed caller st rest below m)
    (λ s. (waits_again (record caller { locals = s.locals; todo = rest }) below parts.0 parts.1, refl))

returned_waits : (scalar : Scalar) (below : Activity) (m : Memory) (value : Option ℤ) → are_waiting below ≡ true → Only NextWaits (returned scalar below m value)
returned_waits scalar [] m value h = tt
returned_waits scalar (caller ∷ below) m value h = resume_waits scalar caller caller.todo below m value h

-- a call
chosen_waits : (b : Bool) (a : Activity) (m : Memory) (e : Stop) → (are_waiting a ≡ true) × (has_frames a ≡ true) → Only NextWaits (if b then Ok (Went a m) else Err e)
chosen_waits true a m e h = h
chosen_waits false a m e h = tt

called_waits : (line number : ℕ) (values : List ℤ) (o : Option CheckedFn) (frames : Activity) (m : Memory) → waits_for number frames ≡ true → are_waiting frames ≡ true
    → Only NextWaits (called line number values o frames m)
called_waits line number values None frames m first h = tt
called_waits line number values (Some f) frames m first h =
    chosen_waits (nat_lt (length frames) 64) (entered number values f ∷ frames) m (Failed line fail.Stack) (waits_again (entered number values f) frames first h, refl)

turned_waits : (unit : CheckedUnit) (f : CheckedFn) (top : Frame) (st : CheckedStmt) (rest : List CheckedStmt) (below : Activity) (turn : Turn) (s : State)
    → top.todo ≡ st ∷ rest → are_waiting (top ∷ below) ≡ true → Suits (out-CheckedStmt st) turn → Only NextWaits (turned unit f top st rest below turn s)
turned_waits unit f top st rest below On s first h suit =
    let parts = top_waits top below h in
    (waits_again (record top { locals = s.locals; todo = rest }) below parts.0 parts.1, refl)
turned_waits unit f top st rest below (Into holds) s first h suit =
    let parts = top_waits top below h in
    (waits_again (record top { locals = s.locals; todo = picked st holds rest }) below parts.0 parts.1, refl)
turned_waits unit f top st rest below (Calls number values) s first h suit =
    called_waits (line_of (out-CheckedStmt st)) number values (slice_get unit.functions number) (top ∷ below) s.memory
    (ap (calls_first number) first ∙ suit) h
turned_waits unit f top st rest below (Asks call) s first h suit = h
turned_waits unit f top st rest below (Returns value) s first h suit = returned_waits f.result below s.memory value (top_waits top below h).1

of_waits : (unit : CheckedUnit) (top : Frame) (below : Activity) (m : Memory) (o : Option CheckedFn) (todo : List CheckedStmt) → top.todo ≡ todo
    → are_waiting (top ∷ below) ≡ true → Only NextWaits (step_of [] unit top below m o todo)
of_waits unit top below m None todo first h = tt
of_waits unit top below m (Some f) [] first h = tt
of_waits unit top below m (Some f) (st ∷ rest) first h = by (act [] f (state_of top m) (out-CheckedStmt st)) (act_suits [] f (state_of top m) (out-CheckedStmt st))
  where
    by : (r : Outcome Acted) → Only (suits (out-CheckedStmt st)) r → Only NextWaits (r >>= λ w. turned unit f top st rest below w.turn w.state)
    by (Ok w) suit = turned_waits unit f top st rest below w.turn w.state first h suit
    by (Err e) suit = tt

step_waits : (unit : CheckedUnit) (frames : Activity) (m : Memory) → are_waiting frames ≡ true → Only NextWaits (step unit frames m)
unfolding step step_kept
step_waits unit [] m h = tt
step_waits unit (top ∷ below) m h = of_waits unit top below m (slice_get unit.functions top.function) top.todo refl h

pub went_waits : (unit : CheckedUnit) (frames after : Activity) (m n : Memory) → are_waiting frames ≡ true → step unit frames m ≡ Ok (Went after n)
    → (are_waiting after ≡ true) × (has_frames after ≡ true)
went_waits unit frames after m n h e = only_at NextWaits (step unit frames m) (Went after n) (step_waits unit frames m h) e

-- behind the kernel's answer
answer_by_waits : (top : Frame) (todo : List CheckedStmt) (below : Activity) (reply : Answer) → are_waiting (top ∷ below) ≡ true
    → are_waiting (answered_by top todo below reply) ≡ true
answer_by_waits top [] below reply h = h
answer_by_waits top (st ∷ rest) below reply h =
    let parts = top_waits top below h in
    waits_again (record top { locals = answer_set top.locals (target_of (out-CheckedStmt st)) reply; todo = rest }) below parts.0 parts.1

pub answer_waits : (frames : Activity) (reply : Answer) → are_waiting frames ≡ true → are_waiting (answered frames reply) ≡ true
unfolding answered
answer_waits [] reply h = h
answer_waits (top ∷ below) reply h = answer_by_waits top top.todo below reply h
