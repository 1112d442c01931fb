-- One task of a machine: what is seen of it, as it becomes another, and as others do.
use Rattle.std.proofs.Common.{◌≡◌, ◌≢◌, ℕ, suc, zero, ◌<◌, ◌==◌, Bool, true, false, if◌then◌else◌, List, [], ◌∷◌, length, map, All, ℤ, Option, Some, None, Result, Ok, Err, slice_get, slice_set, refl, sym, ap, ◌∙◌, subst, arith}
use Rattle.std.proofs.lemmas.Bool.Decides.{nat_tests}
use Rattle.std.proofs.lemmas.List.Elements.{All-set, All-map, All-weaker, All-contains}
use Rattle.std.proofs.lemmas.List.{length-map}
use Rattle.std.proofs.lemmas.Option.{slice_get-map, slice_get_within, unwrap_or-slice_get}
use Rattle.std.specs.Prelude.{unwrap_or}
use Rattle.std.specs.Option.{option_map}
use Rattle.checked_tree.specs.declared.units.CheckedUnit.{CheckedUnit}
use Rattle.byte_memory.specs.Tested.{Memory}
use Rattle.checked_tree.specs.declared.kernel.Answer.{Answer}
use Rattle.checked_tree.specs.Step as step
use Rattle.checked_tree.specs.Step.{Activity, answered}
use Rattle.driver_machine.specs.declared.busy.Busy.{Busy}
use Rattle.driver_machine.specs.declared.step_out.StepOut.{StepOut}
use Rattle.driver_machine.specs.declared.task.Task.{Task}
use Rattle.driver_machine.specs.Machines.{IsTask, IsMachine, BelongsTo, activity_of, owner_after, owner_of, dropped, owner_at, owner_in, activity_at, activity_in, BelongsAt, Belongs, OthersStay, TaskStarts, Starts, Drops}
use Rattle.driver_machine.specs.Tasks.{activity, AreStanding, ComesTo}
use Rattle.driver_machine.specs.Waiting.{are_waiting}
use Rattle.driver_machine.proofs.Activities.{set_same}

-- ---- a task that is there
pub task_at : (tasks : List Task) (at : ℕ) (t : Task) → All IsTask tasks → slice_get tasks at ≡ Some t → IsTask t
task_at tasks at t all is =
    All-contains IsTask tasks t all (at, slice_get_within tasks at t is, sym (unwrap_or-slice_get tasks at t) ∙ ap (λ (o : Option Task). unwrap_or o t) is)

set_other : {X : Type 0} (xs : List X) (k j : ℕ) (x : X) → j ≢ k → slice_get (slice_set xs k x) j ≡ slice_get xs j
set_other [] k j x apart = refl
set_other (y ∷ xs) zero zero x apart = absurd (apart refl)
set_other (y ∷ xs) zero (suc j) x apart = refl
set_other (y ∷ xs) (suc k) zero x apart = refl
set_other (y ∷ xs) (suc k) (suc j) x apart = set_other xs k j x (λ same. apart (ap suc same))

module _ (tasks : List Task) (at : ℕ) (t t' : Task) (is : slice_get tasks at ≡ Some t) (there : at < length tasks) where
  becomes : slice_get (slice_set tasks at t') at ≡ Some t'
  becomes = set_same tasks at t' there

  pub owner_was : owner_in tasks at ≡ owner_of t
  unfolding owner_in
  owner_was = ap owner_at is

  pub owner_is : owner_in (slice_set tasks at t') at ≡ owner_of t'
  unfolding owner_in
  owner_is = ap owner_at becomes

  pub activity_was : (unit : CheckedUnit) → activity_in unit tasks at ≡ activity_of unit t
  unfolding activity_in
  activity_was unit = ap (activity_at unit) is

  pub activity_is : (unit : CheckedUnit) → activity_in unit (slice_set tasks at t') at ≡ activity_of unit t'
  unfolding activity_in
  activity_is unit = ap (activity_at unit) becomes

  pub belongs_was : (unit : CheckedUnit) → Belongs unit tasks at → BelongsTo unit t
  unfolding Belongs
  belongs_was unit h = subst (BelongsAt unit) is h

  pub belongs_is : (unit : CheckedUnit) → BelongsTo unit t' → Belongs unit (slice_set tasks at t') at
  unfolding Belongs
  belongs_is unit h = subst (BelongsAt unit) (sym becomes) h

  pub others_stay : OthersStay at tasks (slice_set tasks at t')
  others_stay other apart = set_other tasks at other t' apart

  pub each_task : All IsTask tasks → IsTask t' → All IsTask (slice_set tasks at t')
  each_task all one = All-set IsTask tasks at t' one all

  -- a step, and the kernel's answer
  pub comes_in : (unit : CheckedUnit) (m m' : Memory) (out : StepOut)
      → ComesTo (step.step unit (activity_of unit t) m) (activity_of unit t) m out (activity_of unit t') m'
      → ComesTo (step.step unit (activity_in unit tasks at) m) (activity_in unit tasks at) m out (activity_in unit (slice_set tasks at t') at) m'
  comes_in unit m m' out h =
      subst (λ (a : Activity). ComesTo (step.step unit (activity_in unit tasks at) m) (activity_in unit tasks at) m out a m') (sym (activity_is unit))
      (subst (λ (a : Activity). ComesTo (step.step unit a m) a m out (activity_of unit t') m') (sym (activity_was unit)) h)

  pub owner_follows : (out : StepOut) → owner_of t' ≡ owner_after out (owner_of t) → owner_in (slice_set tasks at t') at ≡ owner_after out (owner_in tasks at)
  owner_follows out h = owner_is ∙ h ∙ ap (owner_after out) (sym owner_was)

  pub answers_in : (unit : CheckedUnit) (reply : Answer) → activity_of unit t' ≡ answered (activity_of unit t) reply
      → activity_in unit (slice_set tasks at t') at ≡ answered (activity_in unit tasks at) reply
  answers_in unit reply h = activity_is unit ∙ h ∙ ap (λ (a : Activity). answered a reply) (sym (activity_was unit))

  pub owner_stays : owner_of t' ≡ owner_of t → owner_in (slice_set tasks at t') at ≡ owner_in tasks at
  owner_stays h = owner_is ∙ h ∙ sym owner_was

  -- a call from outside
  pub starts_at : (unit : CheckedUnit) (owner function : ℕ) (arguments : List ℤ) (result : Result (Unit {0}) Busy)
      → TaskStarts unit owner function arguments t result t' → Starts unit owner at function arguments tasks result (slice_set tasks at t')
  starts_at unit owner function arguments (Ok x) h = (
    owner_was ∙ h.0,
    owner_is ∙ h.1,
    ap (λ (a : Activity). Some a) (activity_is unit) ∙ h.2,
    belongs_is unit h.3,
  )
  starts_at unit owner function arguments (Err busy) h = (
    (λ none. h.0 (sym owner_was ∙ none)),
    ap (slice_set tasks at) h.1 ∙ set_as_it_is tasks at t is,
  )
    where
      set_as_it_is : {X : Type 0} (xs : List X) (k : ℕ) (x : X) → slice_get xs k ≡ Some x → slice_set xs k x ≡ xs
      set_as_it_is [] k x e = refl
      set_as_it_is (y ∷ xs) zero x e = let same : y ≡ x = cc in ap (λ z. z ∷ xs) (sym same)
      set_as_it_is (y ∷ xs) (suc k) x e = ap (λ zs. y ∷ zs) (set_as_it_is xs k x e)

-- whose activity a task has that is found, or not
pub owner_found : (tasks : List Task) (at : ℕ) (t : Task) → Some t ≡ slice_get tasks at → owner_of t ≡ owner_in tasks at
unfolding owner_in
owner_found tasks at t is = ap owner_at is

pub owner_missing : (tasks : List Task) (at : ℕ) → None ≡ slice_get tasks at → None ≡ owner_in tasks at
unfolding owner_in
owner_missing tasks at is = ap owner_at is

-- the line at which its activity stands
pub line_in : (unit : CheckedUnit) (tasks : List Task) (at : ℕ) (t : Task) → slice_get tasks at ≡ Some t
    → step.line (activity_of unit t) ≡ step.line (activity_in unit tasks at)
unfolding activity_in
line_in unit tasks at t is = ap (λ (o : Option Task). step.line (activity_at unit o)) (sym is)

-- ---- the other tasks
module _ (task : ℕ) (old new : List Task) (others : OthersStay task old new) (other : ℕ) (apart : other ≢ task) where
  pub other_owner : owner_in new other ≡ owner_in old other
  unfolding owner_in
  other_owner = ap owner_at (others other apart)

  pub other_activity : (unit : CheckedUnit) → activity_in unit new other ≡ activity_in unit old other
  unfolding activity_in
  other_activity unit = ap (activity_at unit) (others other apart)

  pub other_belongs : (unit : CheckedUnit) → Belongs unit old other → Belongs unit new other
  unfolding Belongs
  other_belongs unit h = subst (BelongsAt unit) (sym (others other apart)) h

-- ---- a task without an activity
idle_live : (n owner : ℕ) → (if n == 0 then None else Some owner) ≡ None → n ≡ 0
idle_live zero owner h = refl
idle_live (suc n) owner h = absurd (let some : (suc n == 0) ≡ false = grind (arith, nat_tests) in
    let is : (if suc n == 0 then None else Some owner) ≡ Some owner = ap (λ (b : Bool). if b then None else Some owner) some in cc)

idle_to : (unit : CheckedUnit) (t : Task) → t.live ≡ 0 → BelongsTo unit t
unfolding AreStanding activity are_waiting
idle_to unit t none = (
  subst (AreStanding unit t.frames.items) (sym none) tt,
  ap (λ (n : ℕ). are_waiting (activity unit t.frames.items n)) none,
)

pub idle_belongs : (unit : CheckedUnit) (tasks : List Task) (task : ℕ) → owner_in tasks task ≡ None → Belongs unit tasks task
unfolding owner_in Belongs
idle_belongs unit tasks task h = by (slice_get tasks task) h
  where
    by : (o : Option Task) → owner_at o ≡ None → BelongsAt unit o
    by None e = tt
    by (Some t) e = idle_to unit t (idle_live t.live t.owner e)

pub idle_activity : (unit : CheckedUnit) (tasks : List Task) (task : ℕ) → owner_in tasks task ≡ None → activity_in unit tasks task ≡ []
unfolding owner_in activity_in activity
idle_activity unit tasks task h = by (slice_get tasks task) h
  where
    by : (o : Option Task) → owner_at o ≡ None → activity_at unit o ≡ []
    by None e = refl
    by (Some t) e = ap (activity unit t.frames.items) (idle_live t.live t.owner e)

-- no task of a new machine has one
pub none_live : (tasks : List Task) → All (λ (t : Task). t.live ≡ 0) tasks → (task : ℕ) → owner_in tasks task ≡ None
unfolding owner_in
none_live tasks all task = by (slice_get tasks task) refl
  where
    by : (o : Option Task) → slice_get tasks task ≡ o → owner_at o ≡ None
    by None is = refl
    by (Some t) is =
        let none : t.live ≡ 0 = All-contains (λ (x : Task). x.live ≡ 0) tasks t all
        (task, slice_get_within tasks task t is, sym (unwrap_or-slice_get tasks task t) ∙ ap (λ (o : Option Task). unwrap_or o t) is) in
        ap (λ (n : ℕ). if n == 0 then None else Some t.owner) none

-- ---- the activities of a driver taken away
pub dropped_each : (owner : ℕ) (tasks : List Task) → All IsTask tasks → All IsTask (map (dropped owner) tasks)
dropped_each owner tasks all = All-map IsTask (dropped owner) tasks (All-weaker IsTask (λ (t : Task). IsTask (dropped owner t)) (λ t one. by t one (t.owner == owner)) tasks all)
  where
    by : (t : Task) → IsTask t → (b : Bool) → IsTask (if b then record t { live = 0 } else t)
    by t one true = record { room = one.room; few = omega arith }
    by t one false = one

pub dropped_machine : (owner : ℕ) (old new : List Task) (arguments : List ℤ) → new ≡ map (dropped owner) old → IsMachine old arguments → IsMachine new arguments
dropped_machine owner old new arguments is one = subst (λ (l : List Task). IsMachine l arguments) (sym is) (record {
  nine = length-map old (dropped owner) ∙ one.nine;
  each = dropped_each owner old one.each;
  words = one.words;
})

same_owner : (a b : ℕ) → a ≡ b → (a == b) ≡ true
same_owner a b h = grind (arith, nat_tests)

not_same : (a b : ℕ) → (a == b) ≡ true → a ≡ b
not_same a b h = grind (arith, nat_tests)

some_live : (n owner who : ℕ) → (if n == 0 then None else Some owner) ≡ Some who → owner ≡ who
some_live zero owner who h = absurd cc
some_live (suc n) owner who h =
    let some : (suc n == 0) ≡ false = grind (arith, nat_tests) in
    let is : (if suc n == 0 then None else Some owner) ≡ Some owner = ap (λ (b : Bool). if b then None else Some owner) some in
    cc

is_live : (n owner : ℕ) → n ≢ 0 → (if n == 0 then None else Some owner) ≡ Some owner
is_live zero owner h = absurd (h refl)
is_live (suc n) owner h =
    let some : (suc n == 0) ≡ false = grind (arith, nat_tests) in
    ap (λ (b : Bool). if b then None else Some owner) some

module _ (owner : ℕ) where
  gone : (t : Task) → owner_of t ≡ Some owner → owner_of (dropped owner t) ≡ None
  gone t h =
      let same = some_live t.live t.owner owner h in
      ap (λ (b : Bool). owner_of (if b then record t { live = 0 } else t)) (same_owner t.owner owner same)

  kept : (t : Task) → owner_of t ≢ Some owner → dropped owner t ≡ t
  kept t apart = by (t.owner == owner) refl
    where
      idle : (n : ℕ) → (n ≡ 0 → ⊥) → t.live ≡ n → (t.owner == owner) ≡ true → ⊥
      idle n some is same =
          apart (is_live t.live t.owner (λ none. some (sym is ∙ none)) ∙ ap (λ (o : ℕ). Some o) (not_same t.owner owner same))

      nothing : (n : ℕ) → t.live ≡ n → (t.owner == owner) ≡ true → record t { live = 0 } ≡ t
      nothing zero is same = ap (λ (n : ℕ). record t { live = n }) (sym is)
      nothing (suc n) is same = absurd (idle (suc n) (λ e. absurd (omega (arith, e))) is same)

      by : (b : Bool) → (t.owner == owner) ≡ b → (if b then record t { live = 0 } else t) ≡ t
      by true same = nothing t.live refl same
      by false same = refl

  pub drops : (old new : List Task) → new ≡ map (dropped owner) old → Drops owner old new
  unfolding owner_in
  drops old new is task = by (slice_get old task) refl
    where
      now_is : (o : Option Task) → slice_get old task ≡ o → slice_get new task ≡ option_map (dropped owner) o
      now_is o e = ap (λ (l : List Task). slice_get l task) is ∙ (slice_get-map (dropped owner) old task ∙ ap (option_map (dropped owner)) e)

      by : (o : Option Task) → slice_get old task ≡ o
          → (owner_at (slice_get old task) ≡ Some owner → owner_at (slice_get new task) ≡ None)
          × (owner_at (slice_get old task) ≢ Some owner → slice_get new task ≡ slice_get old task)
      by None e = ((λ h. ap owner_at (now_is None e)), (λ h. now_is None e ∙ sym e))
      by (Some t) e = (
        (λ h. ap owner_at (now_is (Some t) e) ∙ gone t (sym (ap owner_at e) ∙ h)),
        (λ h. now_is (Some t) e ∙ (ap (λ (x : Task). Some x) (kept t (λ same. h (ap owner_at e ∙ same))) ∙ sym e)),
      )
