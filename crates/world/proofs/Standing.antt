-- How a script is carried out by the whole world, form by form.
-- Here: leads-then, good-after, leads-is, leads-ground, leads-run, failing
use Rattle.std.proofs.Common.{◌≡◌, ℕ, Bool, true, false, List, length, slice_get, Option, refl, sym, ap, ◌∙◌, subst}
use Rattle.checked_tree.specs.declared.units.CheckedUnit.{CheckedUnit}
use Rattle.run_report.specs.declared.item.Item.{Item}
use Rattle.driver_machine.specs.declared.task.Task.{Task}
use Rattle.driver_machine.specs.Machines.{owner_in, Drops}
use Rattle.driver_host.specs.Hosting.{IsHost}
use Rattle.driver_host.specs.Printing.{IsTold}
use Rattle.driver_host.specs.Grounds.{Carries}
use Rattle.world_core.specs.declared.run_state.RunState.{RunState}
use Rattle.world_core.specs.WorldState.{WorldState, of_owner, no_unit, unless_owned}
use Rattle.world_core.specs.Script.{Script, nothing, say, on_run, both, does, by_run, given}
use Rattle.world_core.specs.Showing.{name_of, names_of, show}
use Rattle.world_core.proofs.Lawful.{keeps-plan}
use Rattle.world.specs.Standing.{names_in, running_by, running_in, BelongsBy, HasActivities, Here, IsWorld, IsGood, Leads}

-- ---- forms

pub leads-then : {units : List CheckedUnit} {a b c : Here} {f g : Script} → Leads units a b f → Leads units b c g → Leads units a c (both f g)
leads-then {f} p q = record { to = λ first faults s is. q.to first faults (does f s) (p.to first faults s is) }

pub leads-nothing : {units : List CheckedUnit} {a : Here} → Leads units a a nothing
leads-nothing = record { to = λ first faults s is. is }

pub leads-is : {units : List CheckedUnit} {a b : Here} {f g : Script} → f ≡ g → Leads units a b f → Leads units a b g
leads-is {units} {a} {b} same p = subst (Leads units a b) same p

pub good-after : {units : List CheckedUnit} {a b : Here} {f : Script} → IsGood units a → Leads units a b f → IsGood units b
good-after {f} good p = record { first = good.first; faults = good.faults; state = does f good.state; is = p.to good.first good.faults good.state good.is }

-- the names of the functions are those of the drivers
pub named : (units : List CheckedUnit) (s : WorldState) → s.plan.drivers ≡ units → names_of s.plan ≡ names_in units
named units s is = ap (λ us. λ owner function. name_of (slice_get (of_owner no_unit us owner).functions function)) is

-- ---- what the ground carries out, beside which the activities stay

-- a script leaves the activities, and as many memories as there were
pub record IsBeside (f : Script) : Type 0 where
  pub tasks : (s : WorldState) → (does f s).tasks ≡ s.tasks
  pub memories : (s : WorldState) → length (does f s).memories ≡ length s.memories

pub leads-ground : (units : List CheckedUnit) (a b : Here) (f : Script) → IsBeside f → b.live.machine ≡ a.live.machine
    → Carries a.live.ground b.live.ground a.told b.told (names_in units) f → Leads units a b f
leads-ground units a b f beside machine carries = record {
  to = λ first faults s is. record {
    drivers = ap (λ p. p.drivers) (keeps-plan f s) ∙ is.drivers;
    few = is.few;
    memories = beside.memories s ∙ is.memories;
    ground = carries.to first faults s (named units s is.drivers) is.ground;
    activities = subst (λ m. HasActivities units m (does f s).tasks) (sym machine)
        (subst (HasActivities units a.live.machine) (sym (beside.tasks s)) is.activities);
  };
}

pub beside-say : (x : Item) → IsBeside (say x)
beside-say x = record { tasks = λ s. refl; memories = λ s. refl }

pub beside-run : (change : RunState → RunState) → IsBeside (on_run change)
beside-run change = record { tasks = λ s. refl; memories = λ s. refl }

pub beside-show : IsBeside show
unfolding show
beside-show = record { tasks = λ s. refl; memories = λ s. refl }

-- a change of the run
pub leads-run : (units : List CheckedUnit) (a b : Here) (change : RunState → RunState) → b.live.ground.run ≡ change a.live.ground.run
    → b.live.ground.host ≡ a.live.ground.host → b.live.machine ≡ a.live.machine → b.told ≡ a.told → Leads units a b (on_run change)
leads-run units a b change run host machine told = record {
  to = λ first faults s is. record {
    drivers = is.drivers;
    few = is.few;
    memories = is.memories;
    ground = record {
      run = run ∙ ap change is.ground.run;
      host = subst (λ h. IsHost s.plan.share h s.history s.memories s.devices) (sym host) is.ground.host;
      told = subst (λ o. IsTold o first faults s.said) (sym told) is.ground.told;
    };
    activities = subst (λ m. HasActivities units m s.tasks) (sym machine) is.activities;
  };
}

pub leads-by_run : {units : List CheckedUnit} {a b : Here} (k : RunState → Script) → Leads units a b (k a.live.ground.run) → Leads units a b (by_run k)
leads-by_run {units} {b} k p = record {
  to = λ first faults s is.
      subst (λ r. IsWorld units b first faults (does (k r) s)) is.ground.run (p.to first faults s is);
}

pub leads-yes : {units : List CheckedUnit} {a b : Here} {f g : Script} (test : Bool) → test ≡ true → Leads units a b f → Leads units a b (given test f g)
leads-yes {units} {a} {b} {f} {g} test yes_it_is p = subst (λ t. Leads units a b (given t f g)) (sym yes_it_is) (record { to = p.to })

pub leads-no : {units : List CheckedUnit} {a b : Here} {f g : Script} (test : Bool) → test ≡ false → Leads units a b g → Leads units a b (given test f g)
leads-no {units} {a} {b} {f} {g} test no_it_is p = subst (λ t. Leads units a b (given t f g)) (sym no_it_is) (record { to = p.to })

-- ---- a driver is taken back

-- of a driver that is not this one all stays
left-as_it_was : (units : List CheckedUnit) (owner : ℕ) (old new : List Task) (task : ℕ) (o : Option ℕ) → Drops owner old new → owner_in old task ≡ o
    → (running_in units new task ≡ unless_owned owner (running_by units old task o)) × BelongsBy units new task (owner_in new task)
    → (running_in units new task ≡ unless_owned owner (running_by units old task o)) × BelongsBy units new task (owner_in new task)
left-as_it_was units owner old new task o drops is p = p
