-- A call from outside begins, in the machine and in the world.
-- Here: begins-not, begins-started, unit-none, unit-some, begun-none, begun-some
use Rattle.std.proofs.Common.{◌≡◌, ℕ, zero, suc, ◌≤◌, List, [], ◌∷◌, length, slice_get, ℤ, Option, None, Some, refl, sym, ap, ◌∙◌, subst, arith}
use Rattle.checked_tree.specs.declared.units.CheckedUnit.{CheckedUnit}
use Rattle.checked_tree.specs.Step.{Activity, started, started_by}
use Rattle.safe_code.specs.Drivers.{Driver}
use Rattle.driver_machine.specs.declared.task.Task.{Task}
use Rattle.driver_machine.specs.Machines.{owner_in, activity_in, Belongs, OthersStay}
use Rattle.world_core.specs.WorldState.{Running, of_owner, no_unit, with_activity}
use Rattle.world_core.specs.Script.{on_tasks, by_plan}
use Rattle.world_core.specs.Handling.{running, begun}
use Rattle.world.specs.Standing.{units_of, driver_at, unit_at, running_by, running_in, BelongsBy, HasActivities, Here, Leads}
use Rattle.world.specs.Begun.{BegunBy, Begins, BegunIn}
use Rattle.world.proofs.Composing.{leads-by_units, leads-on_tasks}
use Rattle.world.proofs.Dropping.{idle-running, idle-belongs}
use Rattle.world.proofs.Steps.{tasks-with}

-- ---- the machine

-- there is no such function
none-started : (unit : CheckedUnit) (function : ℕ) (values : List ℤ) → length unit.functions ≤ function → started unit function values ≡ None
unfolding started
none-started unit function values past = ap (started_by function values) (beyond unit.functions function past)
  where
    beyond : {A : Type 0} (xs : List A) (k : ℕ) → length xs ≤ k → slice_get xs k ≡ None
    beyond [] k past = refl
    beyond (x ∷ xs) zero past = absurd (omega arith)
    beyond (x ∷ xs) (suc k) past = beyond xs k (omega arith)

pub begins-not : (unit : CheckedUnit) (task owner function : ℕ) (values : List ℤ) (machine : List Task) → length unit.functions ≤ function
    → owner_in machine task ≡ None → Begins unit task owner function values machine machine
begins-not unit task owner function values machine past idle = record {
  others = λ other apart. refl;
  begun = subst (λ o. BegunBy unit task owner o machine) (sym (none-started unit function values past)) idle;
}

pub begins-started : (unit : CheckedUnit) (task owner function : ℕ) (values : List ℤ) (old new : List Task) → owner_in old task ≡ None → OthersStay task old new
    → (owner_in old task ≡ None) × (owner_in new task ≡ Some owner) × (Some (activity_in unit new task) ≡ started unit function values) × Belongs unit new task
    → Begins unit task owner function values old new
begins-started unit task owner function values old new idle others starts = record {
  others = others;
  begun = subst (λ o. BegunBy unit task owner o new) starts.2 (starts.1, refl, starts.3);
}

-- ---- a driver's unit

pub unit-none : (drivers : List Driver) (owner : ℕ) → driver_at drivers owner ≡ None → unit_at (units_of drivers) owner ≡ no_unit
unit-none drivers zero none = refl
unit-none [] (suc k) none = refl
unit-none (d ∷ drivers) (suc zero) none = absurd cc
unit-none (d ∷ drivers) (suc (suc k)) none = unit-none drivers (suc k) none

pub unit-some : (drivers : List Driver) (owner : ℕ) (d : Driver) → driver_at drivers owner ≡ Some d
    → (unit_at (units_of drivers) owner ≡ d.unit) × (1 ≤ owner) × (owner ≤ length (units_of drivers))
unit-some drivers zero d is = absurd cc
unit-some [] (suc k) d is = absurd cc
unit-some (e ∷ drivers) (suc zero) d is =
    let same : e ≡ d = cc in (ap (λ (x : Driver). x.unit) same, omega arith, omega arith)
unit-some (e ∷ drivers) (suc (suc k)) d is =
    let more = unit-some drivers (suc k) d is in (more.0, omega arith, omega (arith, more.2))

-- ---- the world

running-begun : (units : List CheckedUnit) (machine : List Task) (task owner : ℕ) (o : Option Activity) → BegunIn units task owner o machine
    → running_in units machine task ≡ running owner o
running-begun units machine task owner None is = idle-running units machine task is
running-begun units machine task owner (Some frames) is =
    ap (running_by units machine task) is.0 ∙ ap (λ f. Some (one owner f)) is.1
  where
    one : ℕ → Activity → Running
    one owner frames = record { owner = owner; frames = frames }

belongs-begun : (units : List CheckedUnit) (machine : List Task) (task owner : ℕ) (o : Option Activity) → BegunIn units task owner o machine
    → BelongsBy units machine task (owner_in machine task)
belongs-begun units machine task owner None is = idle-belongs units machine task is
belongs-begun units machine task owner (Some frames) is = subst (BelongsBy units machine task) (sym is.0) (is.2, is.3, is.4)

leads-begun : {units : List CheckedUnit} {a b : Here} (task owner function : ℕ) (values : List ℤ) → task ≤ 8 → b.live.ground ≡ a.live.ground → b.told ≡ a.told
    → OthersStay task a.live.machine b.live.machine → BegunIn units task owner (started (unit_at units owner) function values) b.live.machine
    → Leads units a b (by_plan (λ plan. on_tasks (begun plan task owner function values)))
leads-begun {units} {a} {b} task owner function values in_range ground told others is =
    let what = started (unit_at units owner) function values in
    leads-by_units (λ plan. on_tasks (begun plan task owner function values))
    (on_tasks (λ tasks. with_activity task (running owner (started (unit_at units owner) function values)) tasks))
    (λ plan drivers. ap (λ us. on_tasks (λ tasks. with_activity task (running owner (started (of_owner no_unit us owner) function values)) tasks)) (sym drivers))
    (leads-on_tasks units a b (λ tasks. with_activity task (running owner (started (unit_at units owner) function values)) tasks)
    (λ tasks has. subst (λ r. HasActivities units b.live.machine (with_activity task r tasks)) (running-begun units b.live.machine task owner what is)
    (tasks-with units a.live.machine b.live.machine task tasks in_range others (belongs-begun units b.live.machine task owner what is) has))
    ground told)

-- who is no driver has no function
pub begun-none : (drivers : List Driver) {a : Here} (task owner function : ℕ) (values : List ℤ) → task ≤ 8 → owner_in a.live.machine task ≡ None
    → driver_at drivers owner ≡ None → Leads (units_of drivers) a a (by_plan (λ plan. on_tasks (begun plan task owner function values)))
begun-none drivers {a} task owner function values in_range idle none =
    let nothing : started (unit_at (units_of drivers) owner) function values ≡ None =
    ap (λ u. started u function values) (unit-none drivers owner none) ∙ none-started no_unit function values (omega arith) in
    leads-begun task owner function values in_range refl refl (λ other apart. refl)
    (subst (λ o. BegunIn (units_of drivers) task owner o a.live.machine) (sym nothing) idle)

in-all : (units : List CheckedUnit) (unit : CheckedUnit) (task owner : ℕ) (o : Option Activity) (machine : List Task) → unit_at units owner ≡ unit
    → 1 ≤ owner → owner ≤ length units → BegunBy unit task owner o machine → BegunIn units task owner o machine
in-all units unit task owner None machine same some few is = is
in-all units unit task owner (Some frames) machine same some few is = (
  is.0,
  ap (λ u. activity_in u machine task) same ∙ is.1,
  subst (λ u. Belongs u machine task) (sym same) is.2,
  some,
  few,
)

pub begun-some : (drivers : List Driver) {a b : Here} (task owner function : ℕ) (values : List ℤ) (d : Driver) → task ≤ 8
    → driver_at drivers owner ≡ Some d → b.live.ground ≡ a.live.ground → b.told ≡ a.told
    → Begins d.unit task owner function values a.live.machine b.live.machine
    → Leads (units_of drivers) a b (by_plan (λ plan. on_tasks (begun plan task owner function values)))
begun-some drivers {a} {b} task owner function values d in_range is ground told begins =
    let unit = unit-some drivers owner d is in
    leads-begun task owner function values in_range ground told begins.others
    (subst (λ u. BegunIn (units_of drivers) task owner (started u function values) b.live.machine) (sym unit.0)
    (in-all (units_of drivers) d.unit task owner (started d.unit function values) b.live.machine unit.0 unit.1 unit.2 begins.begun))
