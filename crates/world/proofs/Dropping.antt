-- A driver is taken back, its activities with it.
-- Here: kept-running, kept-belongs, drops-activities, leads-taken, leads-fails, leads-strays
use Rattle.std.proofs.Common.{◌≡◌, ℕ, zero, suc, Bool, true, false, eqb, List, [], ◌∷◌, map, length, slice_get, Option, None, Some, refl, sym, ap, ◌∙◌, subst, arith}
use Rattle.std.proofs.lemmas.Bool.{eqb-true}
use Rattle.std.proofs.lemmas.Bool.Decides.{nat_tests}
use Rattle.std.proofs.lemmas.List.{length-map}
use Rattle.sd_base.specs.declared.actors.Who.{Who}
use Rattle.sd_base.specs.declared.kinds.FailKind.{FailKind}
use Rattle.checked_tree.specs.declared.units.CheckedUnit.{CheckedUnit}
use Rattle.driver_machine.specs.declared.task.Task.{Task}
use Rattle.driver_machine.specs.Machines.{owner_at, owner_in, activity_at, activity_in, BelongsAt, Belongs, Drops}
use Rattle.driver_host.specs.Grounds.{Carries}
use Rattle.run_report.specs.declared.item.Item.TheVariants as item
use Rattle.world_core.specs.declared.run_state.RunState.{RunState}
use Rattle.world_core.specs.WorldState.{WorldState, Running, Tasks, activity_of, unless_owned, without_activities, empty_arena}
use Rattle.world_core.specs.Script.{say, does}
use Rattle.world_core.specs.Showing.{show}
use Rattle.world_core.specs.Failing.{takes_back, fails, driver_fails}
use Rattle.world_core.proofs.Lawful.{keeps-plan}
use Rattle.world_core.proofs.Keeping.{length-with_owner}
use Rattle.world.specs.Standing.{unit_at, names_in, running_by, running_in, BelongsBy, HasActivities, Here, Leads}
use Rattle.world.proofs.Standing.{leads-then, named}

-- ---- a task that stays as it was

module _ (units : List CheckedUnit) (old new : List Task) (task : ℕ) (same : slice_get new task ≡ slice_get old task) where
  pub kept-owner : owner_in new task ≡ owner_in old task
  unfolding owner_in
  kept-owner = ap owner_at same

  pub kept-activity : (unit : CheckedUnit) → activity_in unit new task ≡ activity_in unit old task
  unfolding activity_in
  kept-activity unit = ap (activity_at unit) same

  pub kept-belonging : (unit : CheckedUnit) → Belongs unit old task → Belongs unit new task
  unfolding Belongs
  kept-belonging unit h = subst (BelongsAt unit) (sym same) h

  kept-by : (o : Option ℕ) → running_by units new task o ≡ running_by units old task o
  kept-by None = refl
  kept-by (Some k) = ap (λ frames. Some (record { owner = k; frames = frames })) (kept-activity (unit_at units k))

  pub kept-running : running_in units new task ≡ running_in units old task
  kept-running = ap (running_by units new task) kept-owner ∙ kept-by (owner_in old task)

  belongs-by : (o : Option ℕ) → BelongsBy units old task o → BelongsBy units new task o
  belongs-by None h = tt
  belongs-by (Some k) h = (kept-belonging (unit_at units k) h.0, h.1, h.2)

  pub kept-belongs : BelongsBy units old task (owner_in old task) → BelongsBy units new task (owner_in new task)
  kept-belongs h = subst (BelongsBy units new task) (sym kept-owner) (belongs-by (owner_in old task) h)

-- a task without an activity
pub idle-running : (units : List CheckedUnit) (tasks : List Task) (task : ℕ) → owner_in tasks task ≡ None → running_in units tasks task ≡ None
idle-running units tasks task none = ap (running_by units tasks task) none

pub idle-belongs : (units : List CheckedUnit) (tasks : List Task) (task : ℕ) → owner_in tasks task ≡ None → BelongsBy units tasks task (owner_in tasks task)
idle-belongs units tasks task none = subst (BelongsBy units tasks task) (sym none) tt

-- ---- the activities of a driver taken away

pub unless-yes : (owner : ℕ) (r : Running) → eqb r.owner owner ≡ true → unless_owned owner (Some r) ≡ None
unless-yes owner r e = ap (λ b. elim b [ true ↦ None | false ↦ Some r ]) e

unless-no : (owner : ℕ) (r : Running) → eqb r.owner owner ≡ false → unless_owned owner (Some r) ≡ Some r
unless-no owner r e = ap (λ b. elim b [ true ↦ None | false ↦ Some r ]) e

eqb-self : (k : ℕ) → eqb k k ≡ true
eqb-self k = grind (arith, nat_tests)

pub activity-map : (f : Option Running → Option Running) → f None ≡ None → (tasks : Tasks) (task : ℕ) → activity_of (map f tasks) task ≡ f (activity_of tasks task)
activity-map f none [] task = sym none
activity-map f none (x ∷ xs) zero = refl
activity-map f none (x ∷ xs) (suc task) = activity-map f none xs task

module _ (units : List CheckedUnit) (owner : ℕ) (old new : List Task) (drops : Drops owner old new) (task : ℕ) where
  abbrev pub IsDropped : Type 0
  IsDropped = (running_in units new task ≡ unless_owned owner (running_in units old task))
      × (BelongsBy units old task (owner_in old task) → BelongsBy units new task (owner_in new task))

  stays : slice_get new task ≡ slice_get old task → unless_owned owner (running_in units old task) ≡ running_in units old task → IsDropped
  stays same as_it_was = (kept-running units old new task same ∙ sym as_it_was, kept-belongs units old new task same)

  of-none : owner_in old task ≡ None → IsDropped
  of-none is =
      let was : running_in units old task ≡ None = idle-running units old task is in
      stays ((drops task).1 (λ e. let no : None ≡ Some owner = sym is ∙ e in cc no)) (ap (unless_owned owner) was ∙ sym was)

  of-some : (k : ℕ) → owner_in old task ≡ Some k → (b : Bool) → eqb k owner ≡ b → IsDropped
  of-some k is true e =
      let it : k ≡ owner = eqb-true k owner e in
      let none : owner_in new task ≡ None = (drops task).0 (is ∙ ap (λ n. Some n) it) in
      let was : running_in units old task ≡ Some (record { owner = k; frames = activity_in (unit_at units k) old task }) = ap (running_by units old task) is in (
        idle-running units new task none ∙ sym (ap (unless_owned owner) was ∙ unless-yes owner _ e),
        λ h. idle-belongs units new task none,
      )
  of-some k is false e =
      let was : running_in units old task ≡ Some (record { owner = k; frames = activity_in (unit_at units k) old task }) = ap (running_by units old task) is in
      stays ((drops task).1 (λ same. let both : Some k ≡ Some owner = sym is ∙ same in let it : k ≡ owner = cc both in
      let yes : eqb k owner ≡ true = subst (λ n. eqb k n ≡ true) it (eqb-self k) in cc (sym yes ∙ e)))
      (ap (unless_owned owner) was ∙ unless-no owner _ e ∙ sym was)

  by-owner : (o : Option ℕ) → owner_in old task ≡ o → IsDropped
  by-owner None is = of-none is
  by-owner (Some k) is = of-some k is (eqb k owner) refl

  pub is-dropped : IsDropped
  is-dropped = by-owner (owner_in old task) refl

pub drops-activities : (units : List CheckedUnit) (owner : ℕ) (old new : List Task) (tasks : Tasks) → Drops owner old new → HasActivities units old tasks
    → HasActivities units new (without_activities owner tasks)
drops-activities units owner old new tasks drops has = record {
  nine = length-map tasks (unless_owned owner) ∙ has.nine;
  each = λ task. activity-map (unless_owned owner) refl tasks task ∙ ap (unless_owned owner) (has.each task) ∙ sym (is-dropped units owner old new drops task).0;
  belongs = λ task. (is-dropped units owner old new drops task).1 (has.belongs task);
}

-- ---- taking back

taken-tasks : (owner : ℕ) (stands : RunState → RunState) (s : WorldState) → (does (takes_back owner stands) s).tasks ≡ without_activities owner s.tasks
unfolding takes_back show
taken-tasks owner stands s = refl

taken-memories : (owner : ℕ) (stands : RunState → RunState) (s : WorldState) → length (does (takes_back owner stands) s).memories ≡ length s.memories
unfolding takes_back show
taken-memories owner stands s = length-with_owner s.memories owner empty_arena

pub leads-taken : (units : List CheckedUnit) (a b : Here) (owner : ℕ) (stands : RunState → RunState) → Drops owner a.live.machine b.live.machine
    → Carries a.live.ground b.live.ground a.told b.told (names_in units) (takes_back owner stands) → Leads units a b (takes_back owner stands)
leads-taken units a b owner stands drops carries = record {
  to = λ first faults s is. record {
    drivers = ap (λ p. p.drivers) (keeps-plan (takes_back owner stands) s) ∙ is.drivers;
    few = is.few;
    memories = taken-memories owner stands s ∙ is.memories;
    ground = carries.to first faults s (named units s is.drivers) is.ground;
    activities = subst (HasActivities units b.live.machine) (sym (taken-tasks owner stands s)) (drops-activities units owner _ _ _ drops is.activities);
  };
}

-- a step fails: it is said, the driver's activities go, and it is taken back
pub leads-fails : {units : List CheckedUnit} {a b c : Here} (who : Who) (kind : FailKind) (line : ℕ) → Leads units a b (say (item.Failed who kind line))
    → Leads units b c (takes_back who.owner (driver_fails who.owner)) → Leads units a c (fails who kind line)
unfolding fails
leads-fails who kind line said taken = leads-then said taken
