-- How scripts are carried out one after another, by tests, by what is read of the world, and again and again.
-- Here: leads-if, leads-after, leads-by_plan, leads-by_units, leads-by_history, leads-by_each_history, leads-by_tasks, leads-by_memories,
-- leads-by_devices, leads-says, leads-updates, leads-updates_if, leads-on_devices, leads-on_tasks, leads-on_memories, leads-unless_over,
-- leads-over, going-on, going-while, while-more, while-ends, while-done, decides-run, decides-live
use Rattle.std.proofs.Common.{◌≡◌, ℕ, suc, ◌+◌, ◌-◌, ◌≤◌, ◌<◌, Bool, true, false, not, ◌&&◌, List, length, Option, None, Some, is_some, refl, sym, ap, ◌∙◌, subst, arith}
use Rattle.sd_base.specs.declared.history.Refusal.{Refusal}
use Rattle.sd_base.specs.declared.history.Update.{Update}
use Rattle.sd_base.specs.History.{History}
use Rattle.device_model.specs.Scripted.{Scripted}
use Rattle.checked_tree.specs.declared.units.CheckedUnit.{CheckedUnit}
use Rattle.run_report.specs.declared.item.Item.{Item}
use Rattle.driver_machine.specs.declared.task.Task.{Task}
use Rattle.driver_machine.specs.Machines.{owner_in}
use Rattle.driver_host.specs.Hosting.{IsHost, Moves, Updates, Reads}
use Rattle.driver_host.specs.Printing.{IsTold, Prints}
use Rattle.world_core.specs.declared.run_state.RunState.{RunState}
use Rattle.world_core.specs.WorldState.{WorldState, Plan, Tasks, is_live, is_over}
use Rattle.world_core.specs.Script.{Script, nothing, says, updates, updates_if, on_tasks, on_memories, on_devices, by_plan, by_history, by_tasks, by_memories, by_devices, given, both, while_at_most, does, turns, unless_over}
use Rattle.world_core.specs.Stepping.{goes_on}
use Rattle.world_core.proofs.Leading.{turns-end, turns-more}
use Rattle.world.specs.Standing.{running_by, HasActivities, Here, IsWorld, Leads}
use Rattle.world.specs.Going.{Decides, LeadsIf, Going}

-- ---- for worlds of a kind

pub leads-if : {units : List CheckedUnit} {kind : WorldState → Type 0} {a b : Here} {f : Script} → Leads units a b f → LeadsIf units kind a b f
leads-if p = record { to = λ first faults s k is. p.to first faults s is }

pub leads-every : {units : List CheckedUnit} {a b : Here} {f : Script} → LeadsIf units (λ s. Unit {0}) a b f → Leads units a b f
leads-every p = record { to = λ first faults s is. p.to first faults s tt is }

-- the first keeps the worlds of the kind
pub leads-after : {units : List CheckedUnit} {kind : WorldState → Type 0} {a b c : Here} {f g : Script} → ((s : WorldState) → kind s → kind (does f s))
    → LeadsIf units kind a b f → LeadsIf units kind b c g → LeadsIf units kind a c (both f g)
leads-after {f} keeps p q = record { to = λ first faults s k is. q.to first faults (does f s) (keeps s k) (p.to first faults s k is) }

pub leads-if-is : {units : List CheckedUnit} {kind : WorldState → Type 0} {a b : Here} {f g : Script} → ((s : WorldState) → kind s → f ≡ g)
    → LeadsIf units kind a b f → LeadsIf units kind a b g
leads-if-is {units} {b} same p = record {
  to = λ first faults s k is.
      subst (λ x. IsWorld units b first faults (does x s)) (same s k) (p.to first faults s k is);
}

-- ---- what is read

pub leads-by_plan : {units : List CheckedUnit} {a b : Here} (k : Plan → Script)
    → ((plan : Plan) → plan.drivers ≡ units → Leads units a b (k plan)) → Leads units a b (by_plan k)
leads-by_plan k p = record { to = λ first faults s is. (p s.plan is.drivers).to first faults s is }

pub leads-by_each_plan : {units : List CheckedUnit} {a b : Here} (k : Plan → Script)
    → ((plan : Plan) → plan.drivers ≡ units → LeadsIf units (λ s. s.plan ≡ plan) a b (k plan)) → Leads units a b (by_plan k)
leads-by_each_plan k p = record { to = λ first faults s is. (p s.plan is.drivers).to first faults s refl is }

-- what is done is the same in every plan of these drivers
pub leads-by_units : {units : List CheckedUnit} {a b : Here} (k : Plan → Script) (f : Script)
    → ((plan : Plan) → plan.drivers ≡ units → f ≡ k plan) → Leads units a b f → Leads units a b (by_plan k)
leads-by_units {units} {b} k f same p = record {
  to = λ first faults s is.
      subst (λ x. IsWorld units b first faults (does x s)) (same s.plan is.drivers) (p.to first faults s is);
}

-- what is done is the same in every history for which the host stands
pub leads-by_history : {units : List CheckedUnit} {a b : Here} (k : History → Script) (f : Script)
    → Reads a.live.ground.host (λ h. f ≡ k h) → Leads units a b f → Leads units a b (by_history k)
leads-by_history {units} {b} k f same p = record {
  to = λ first faults s is.
      subst (λ x. IsWorld units b first faults (does x s)) (same.to s.plan.share s.history s.memories s.devices is.ground.host) (p.to first faults s is);
}

pub leads-by_each_history : {units : List CheckedUnit} {a b : Here} (k : History → Script)
    → ((h : History) → LeadsIf units (λ s. s.history ≡ h) a b (k h)) → Leads units a b (by_history k)
leads-by_each_history k p = record { to = λ first faults s is. (p s.history).to first faults s refl is }

pub leads-by_tasks : {units : List CheckedUnit} {a b : Here} (k : Tasks → Script) (f : Script)
    → ((tasks : Tasks) → HasActivities units a.live.machine tasks → f ≡ k tasks) → Leads units a b f → Leads units a b (by_tasks k)
leads-by_tasks {units} {b} k f same p = record {
  to = λ first faults s is.
      subst (λ x. IsWorld units b first faults (does x s)) (same s.tasks is.activities) (p.to first faults s is);
}

pub leads-by_memories : {units : List CheckedUnit} {a b : Here} (k : List (List ℕ) → Script)
    → ((memories : List (List ℕ)) → LeadsIf units (λ s. s.memories ≡ memories) a b (k memories)) → Leads units a b (by_memories k)
leads-by_memories k p = record { to = λ first faults s is. (p s.memories).to first faults s refl is }

pub leads-by_devices : {units : List CheckedUnit} {a b : Here} (k : Scripted → Script) → Leads units a b (k a.live.ground.host.devices)
    → Leads units a b (by_devices k)
leads-by_devices {units} {b} k p = record {
  to = λ first faults s is.
      subst (λ d. IsWorld units b first faults (does (k d) s)) is.ground.host.answers (p.to first faults s is);
}

-- ---- what is changed

pub leads-says : (units : List CheckedUnit) (a b : Here) (items : List Item) → b.live.ground.run ≡ a.live.ground.run
    → b.live.ground.host ≡ a.live.ground.host → b.live.machine ≡ a.live.machine → Prints a.told b.told items → Leads units a b (says items)
leads-says units a b items run host machine prints = record {
  to = λ first faults s is. record {
    drivers = is.drivers;
    few = is.few;
    memories = is.memories;
    ground = record {
      run = run ∙ is.ground.run;
      host = subst (λ h. IsHost s.plan.share h s.history s.memories s.devices) (sym host) is.ground.host;
      told = prints.to first faults s.said is.ground.told;
    };
    activities = subst (λ m. HasActivities units m s.tasks) (sym machine) is.activities;
  };
}

pub leads-updates : (units : List CheckedUnit) (a b : Here) (owner : ℕ) (u : Update) (answer : Option Refusal)
    → Updates a.live.ground.host owner u answer b.live.ground.host → b.live.ground.run ≡ a.live.ground.run
    → b.live.machine ≡ a.live.machine → b.told ≡ a.told → Leads units a b (updates owner u)
leads-updates units a b owner u answer made run machine told = record {
  to = λ first faults s is. record {
    drivers = is.drivers;
    few = is.few;
    memories = is.memories;
    ground = record {
      run = run ∙ is.ground.run;
      host = made.moves.to s.plan.share s.history s.memories s.devices is.ground.host;
      told = subst (λ o. IsTold o first faults s.said) (sym told) is.ground.told;
    };
    activities = subst (λ m. HasActivities units m s.tasks) (sym machine) is.activities;
  };
}

pub leads-on_devices : (units : List CheckedUnit) (a b : Here) (change : Scripted → Scripted)
    → Moves a.live.ground.host b.live.ground.host (λ share h. h) (λ memories. memories) change → b.live.ground.run ≡ a.live.ground.run
    → b.live.machine ≡ a.live.machine → b.told ≡ a.told → Leads units a b (on_devices change)
leads-on_devices units a b change moves run machine told = record {
  to = λ first faults s is. record {
    drivers = is.drivers;
    few = is.few;
    memories = is.memories;
    ground = record {
      run = run ∙ is.ground.run;
      host = moves.to s.plan.share s.history s.memories s.devices is.ground.host;
      told = subst (λ o. IsTold o first faults s.said) (sym told) is.ground.told;
    };
    activities = subst (λ m. HasActivities units m s.tasks) (sym machine) is.activities;
  };
}

pub leads-on_memories : (units : List CheckedUnit) (a b : Here) (change : List (List ℕ) → List (List ℕ))
    → ((m : List (List ℕ)) → length (change m) ≡ length m)
    → Moves a.live.ground.host b.live.ground.host (λ share h. h) change (λ devices. devices) → b.live.ground.run ≡ a.live.ground.run
    → b.live.machine ≡ a.live.machine → b.told ≡ a.told → Leads units a b (on_memories change)
leads-on_memories units a b change many moves run machine told = record {
  to = λ first faults s is. record {
    drivers = is.drivers;
    few = is.few;
    memories = many s.memories ∙ is.memories;
    ground = record {
      run = run ∙ is.ground.run;
      host = moves.to s.plan.share s.history s.memories s.devices is.ground.host;
      told = subst (λ o. IsTold o first faults s.said) (sym told) is.ground.told;
    };
    activities = subst (λ m. HasActivities units m s.tasks) (sym machine) is.activities;
  };
}

pub leads-on_tasks : (units : List CheckedUnit) (a b : Here) (change : Tasks → Tasks)
    → ((tasks : Tasks) → HasActivities units a.live.machine tasks → HasActivities units b.live.machine (change tasks))
    → b.live.ground ≡ a.live.ground → b.told ≡ a.told → Leads units a b (on_tasks change)
leads-on_tasks units a b change has ground told = record {
  to = λ first faults s is. record {
    drivers = is.drivers;
    few = is.few;
    memories = is.memories;
    ground = record {
      run = ap (λ g. g.run) ground ∙ is.ground.run;
      host = subst (λ g. IsHost s.plan.share g.host s.history s.memories s.devices) (sym ground) is.ground.host;
      told = subst (λ o. IsTold o first faults s.said) (sym told) is.ground.told;
    };
    activities = has s.tasks is.activities;
  };
}

pub leads-no_update : {units : List CheckedUnit} {a : Here} (owner : ℕ) → Leads units a a (updates_if owner None)
leads-no_update owner = record { to = λ first faults s is. is }

pub leads-update : {units : List CheckedUnit} {a b : Here} (owner : ℕ) (u : Update) → Leads units a b (updates owner u)
    → Leads units a b (updates_if owner (Some u))
leads-update owner u p = p

-- ---- where the run is over

pub leads-over : {units : List CheckedUnit} {a : Here} (f : Script) → is_over a.live.ground.run ≡ true → Leads units a a (unless_over f)
unfolding unless_over
leads-over {units} {a} f over = record {
  to = λ first faults s is.
      let known : is_over s.run ≡ true = ap is_over (sym is.ground.run) ∙ over in
      subst (λ t. IsWorld units a first faults (does (given t nothing f) s)) (sym known) is;
}

pub leads-unless_over : {units : List CheckedUnit} {a b : Here} (f : Script) → is_over a.live.ground.run ≡ false → Leads units a b f
    → Leads units a b (unless_over f)
unfolding unless_over
leads-unless_over {units} {b} f goes p = record {
  to = λ first faults s is.
      let known : is_over s.run ≡ false = ap is_over (sym is.ground.run) ∙ goes in
      subst (λ t. IsWorld units b first faults (does (given t nothing f) s)) (sym known) (p.to first faults s is);
}

-- ---- tests

-- a test of the run
pub decides-run : (units : List CheckedUnit) (a : Here) (test : RunState → Bool) (outcome : Bool) → test a.live.ground.run ≡ outcome
    → Decides units a (λ s. test s.run) outcome
decides-run units a test outcome is = record { to = λ first faults s w. ap test (sym w.ground.run) ∙ is }

-- a test of the history
pub decides-history : (units : List CheckedUnit) (a : Here) (test : History → Bool) (outcome : Bool) → Reads a.live.ground.host (λ h. outcome ≡ test h)
    → Decides units a (λ s. test s.history) outcome
decides-history units a test outcome reads = record {
  to = λ first faults s w.
      sym (reads.to s.plan.share s.history s.memories s.devices w.ground.host);
}

-- whether a task has an activity
live-by : (units : List CheckedUnit) (machine : List Task) (task : ℕ) (o : Option ℕ) → is_some (running_by units machine task o) ≡ is_some o
live-by units machine task None = refl
live-by units machine task (Some owner) = refl

pub live-is : (units : List CheckedUnit) (machine : List Task) (tasks : Tasks) (task : ℕ) → HasActivities units machine tasks
    → is_live tasks task ≡ is_some (owner_in machine task)
live-is units machine tasks task has = ap is_some (has.each task) ∙ live-by units machine task (owner_in machine task)

pub decides-live : (units : List CheckedUnit) (a : Here) (task : ℕ) (outcome : Bool) → is_some (owner_in a.live.machine task) ≡ outcome
    → Decides units a (λ s. is_live s.tasks task) outcome
decides-live units a task outcome is = record { to = λ first faults s w. live-is units a.live.machine s.tasks task w.activities ∙ is }

-- two tests
pub decides-both : (units : List CheckedUnit) (a : Here) (p q : WorldState → Bool) (x y : Bool) → Decides units a p x → Decides units a q y
    → Decides units a (λ s. p s && q s) (x && y)
decides-both units a p q x y dp dq = record { to = λ first faults s w. ap (λ t. t && q s) (dp.to first faults s w) ∙ ap (λ t. x && t) (dq.to first faults s w) }

pub decides-not : (units : List CheckedUnit) (a : Here) (p : WorldState → Bool) (x : Bool) → Decides units a p x → Decides units a (λ s. not (p s)) (not x)
decides-not units a p x dp = record { to = λ first faults s w. ap not (dp.to first faults s w) }

-- the run goes on, and the task has an activity
pub decides-goes_on : (units : List CheckedUnit) (a : Here) (task : ℕ) → Decides units a (goes_on task)
    (not (is_over a.live.ground.run) && is_some (owner_in a.live.machine task))
decides-goes_on units a task =
    let over = decides-run units a is_over (is_over a.live.ground.run) refl in
    let live = decides-live units a task (is_some (owner_in a.live.machine task)) refl in
    record {
      to = λ first faults s w.
          (decides-both units a (λ s. not (is_over s.run)) (λ s. is_live s.tasks task) (not (is_over a.live.ground.run))
          (is_some (owner_in a.live.machine task)) (decides-not units a (λ s. is_over s.run) (is_over a.live.ground.run) over) live).to first faults s w;
    }

-- ---- again and again

pub going-start : {units : List CheckedUnit} (a : Here) (f : Script) → Going units a a f f
going-start a f = record { to = λ end p. p }

-- one part more
pub going-on : {units : List CheckedUnit} {start now next : Here} {whole f rest : Script} → Going units start now whole (both f rest)
    → Leads units now next f → Going units start next whole rest
going-on {f} going p = record { to = λ end q. going.to end (record { to = λ first faults s is. q.to first faults (does f s) (p.to first faults s is) }) }

-- the rest does nothing
pub going-ends : {units : List CheckedUnit} {start now : Here} {whole rest : Script} → Going units start now whole rest → Leads units now now rest
    → Leads units start now whole
going-ends {now} going p = going.to now p

-- `while_at_most n`, of which i turns were taken
pub going-while : {units : List CheckedUnit} (a : Here) (n : ℕ) (test : WorldState → Bool) (f : Script)
    → Going units a a (while_at_most n test f) (while_at_most (n - 0) test f)
going-while {units} a n test f = subst (λ m. Going units a a (while_at_most n test f) (while_at_most m test f)) (omega arith) (going-start a (while_at_most n test f))

one_less : (n i : ℕ) → i < n → n - i ≡ suc (n - (i + 1))
one_less n i below = omega arith

-- the test holds, and a turn is taken
pub while-more : {units : List CheckedUnit} {start now next : Here} {whole : Script} (n i : ℕ) (test : WorldState → Bool) (f : Script) → i < n
    → Going units start now whole (while_at_most (n - i) test f) → Decides units now test true → Leads units now next f
    → Going units start next whole (while_at_most (n - (i + 1)) test f)
while-more {units} n i test f below going holds p = record {
  to = λ end q. going.to end (record {
    to = λ first faults s is.
        let more : turns (n - i) test (does f) s ≡ turns (n - (i + 1)) test (does f) (does f s) =
        ap (λ m. turns m test (does f) s) (one_less n i below) ∙ turns-more (n - (i + 1)) test (does f) s (holds.to first faults s is) in
        subst (λ w. IsWorld units end first faults w) (sym more) (q.to first faults (does f s) (p.to first faults s is));
  });
}

-- the test fails
pub while-ends : {units : List CheckedUnit} {start now : Here} {whole : Script} (n i : ℕ) (test : WorldState → Bool) (f : Script)
    → Going units start now whole (while_at_most (n - i) test f) → Decides units now test false → Leads units start now whole
while-ends {units} {now} n i test f going ends = going.to now (record {
  to = λ first faults s is.
      subst (λ w. IsWorld units now first faults w) (sym (turns-end (n - i) test (does f) s (ends.to first faults s is))) is;
})

-- all turns were taken
pub while-done : {units : List CheckedUnit} {start now : Here} {whole : Script} (n i : ℕ) (test : WorldState → Bool) (f : Script) → n ≤ i
    → Going units start now whole (while_at_most (n - i) test f) → Leads units start now whole
while-done {units} {now} n i test f done going = going.to now (record {
  to = λ first faults s is.
      let none : n - i ≡ 0 = omega arith in
      subst (λ m. IsWorld units now first faults (turns m test (does f) s)) (sym none) is;
})

-- the rest in another form
pub going-is : {units : List CheckedUnit} {start now : Here} {whole f g : Script} → f ≡ g → Going units start now whole f → Going units start now whole g
going-is {units} {start} {now} {whole} same p = subst (Going units start now whole) same p
