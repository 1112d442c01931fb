-- An order is carried out, or declined by the first obstacle of its list.
-- Here: load-declined, load-done, restart-declined, restart-done, unload-declined, unload-done, call-declined, call-done, loads-then
use Rattle.std.proofs.lemmas.Bool.Decides.{nat_tests}
use Rattle.std.proofs.Common.{◌≢◌, ◌+◌, nat_eq, negsuc, ◌≡◌, ℕ, zero, suc, ◌<◌, ◌||◌, [], ◌∷◌, MatchOption, true≢false, arith, Bool, true, false, List, length, ℤ, Option, None, Some, is_some, refl, sym, ap, ◌∙◌, subst}
use Rattle.checked_tree.specs.declared.units.CheckedUnit.{CheckedUnit}
use Rattle.run_report.specs.declared.item.Item.TheVariants as item
use Rattle.run_report.specs.declared.item.Obstacle.{Obstacle}
use Rattle.run_report.specs.declared.item.Order.{Order}
use Rattle.run_report.specs.declared.item.Order.TheVariants as order
use Rattle.driver_machine.specs.declared.task.Task.{Task}
use Rattle.driver_machine.specs.Machines.{owner_in}
use Rattle.world_core.specs.declared.run_state.Standing.{Standing}
use Rattle.world_core.specs.declared.run_state.Standing.TheVariants.{Absent, Loaded, Failed}
use Rattle.world_core.specs.declared.run_state.DriverState.{DriverState}
use Rattle.world_core.specs.declared.run_state.RunState.{RunState}
use Rattle.world_core.specs.WorldState.{no_unit, WorldState, Plan, Tasks, unit_of, driver_of, is_live, is_owned, activity_of, has_activity}
use Rattle.world_core.specs.Script.{Script, say, on_devices, on_run, on_tasks, by_plan, both, does}
use Rattle.world_core.specs.Failing.{takes_back}
use Rattle.world_core.specs.Handling.{begun}
use Rattle.world_core.specs.Loading.{begins_init, unless_declined, load, load_obstacle, driver_loaded, loads, init_of, restart, restart_obstacle, driver_restarted, unload, unload_obstacle, driver_unloaded, call, call_obstacle, calls, fits_values, function_named}
use Rattle.world.specs.Standing.{names_in, unit_at, running_by, HasActivities, Here, IsWorld, Leads}
use Rattle.world.specs.Orders.{init_in, is_by}
use Rattle.device_model.specs.Scripted.{Scripted}
use Rattle.scenario.specs.declared.event.KernelEvent.{KernelEvent}
use Rattle.driver_host.specs.Grounds.{Carries}
use Rattle.world_core.specs.Inputs.{kernel}
use Rattle.world.proofs.Standing.{IsBeside, leads-ground}
use Rattle.world.proofs.Composing.{live-is}
use Rattle.world_core.proofs.Telling.{or-true}

-- ---- with an obstacle, and without

declined-as : (o : ℕ) (what : Order) (why : Option Obstacle) (x : Obstacle) (f : Script) (s : WorldState) → why ≡ Some x
    → does (say (item.Declined o what x)) s ≡ does (unless_declined o what why f) s
declined-as o what why x f s e = ap (λ w. does (unless_declined o what w f) s) (sym e)

done-as : (o : ℕ) (what : Order) (why : Option Obstacle) (f : Script) (s : WorldState) → why ≡ None → does f s ≡ does (unless_declined o what why f) s
done-as o what why f s e = ap (λ w. does (unless_declined o what w f) s) (sym e)

-- what the code has found of a load holds of each world
load-found : (units : List CheckedUnit) (a : Here) (driver task : ℕ) (first : Option (List ℕ)) (faults : ℕ) (s : WorldState) → IsWorld units a first faults s
    → load_obstacle (driver_of s.run driver).standing (init_of (unit_of s.plan driver)) (is_live s.tasks task)
    ≡ load_obstacle (driver_of a.live.ground.run driver).standing (init_in units driver) (is_some (owner_in a.live.machine task))
load-found units a driver task first faults s is =
    ap (λ (r : RunState). load_obstacle (driver_of r driver).standing (init_of (unit_of s.plan driver)) (is_live s.tasks task)) (sym is.ground.run)
    ∙ ap (λ us. load_obstacle (driver_of a.live.ground.run driver).standing (init_of (unit_at us driver)) (is_live s.tasks task)) is.drivers
    ∙ ap (load_obstacle (driver_of a.live.ground.run driver).standing (init_in units driver)) (live-is units a.live.machine s.tasks task is.activities)

pub load-declined : {units : List CheckedUnit} {a b : Here} (driver task restarts : ℕ) (x : Obstacle)
    → load_obstacle (driver_of a.live.ground.run driver).standing (init_in units driver) (is_some (owner_in a.live.machine task)) ≡ Some x
    → Leads units a b (say (item.Declined driver order.Load x)) → Leads units a b (load driver task restarts)
unfolding load
load-declined {units} {a} {b} driver task restarts x why p = record {
  to = λ first faults s is.
      subst (IsWorld units b first faults)
      (declined-as driver order.Load _ x _ s (load-found units a driver task first faults s is ∙ why)) (p.to first faults s is);
}

pub load-done : {units : List CheckedUnit} {a b : Here} (driver task restarts : ℕ)
    → load_obstacle (driver_of a.live.ground.run driver).standing (init_in units driver) (is_some (owner_in a.live.machine task)) ≡ None
    → Leads units a b (by_plan (λ plan. both (on_run (driver_loaded driver task restarts)) (both (loads plan driver task) (say (item.Loaded driver)))))
    → Leads units a b (load driver task restarts)
unfolding load
load-done {units} {a} {b} driver task restarts why p = record {
  to = λ first faults s is.
      subst (IsWorld units b first faults) (done-as driver order.Load _ _ s (load-found units a driver task first faults s is ∙ why)) (p.to first faults s is);
}

restart-found : (units : List CheckedUnit) (a : Here) (driver task : ℕ) (first : Option (List ℕ)) (faults : ℕ) (s : WorldState) → IsWorld units a first faults s
    → restart_obstacle (driver_of s.run driver).standing (is_live s.tasks task)
    ≡ restart_obstacle (driver_of a.live.ground.run driver).standing (is_some (owner_in a.live.machine task))
restart-found units a driver task first faults s is =
    ap (λ (r : RunState). restart_obstacle (driver_of r driver).standing (is_live s.tasks task)) (sym is.ground.run)
    ∙ ap (restart_obstacle (driver_of a.live.ground.run driver).standing) (live-is units a.live.machine s.tasks task is.activities)

pub restart-declined : {units : List CheckedUnit} {a b : Here} (driver task : ℕ) (x : Obstacle)
    → restart_obstacle (driver_of a.live.ground.run driver).standing (is_some (owner_in a.live.machine task)) ≡ Some x
    → Leads units a b (say (item.Declined driver order.Restart x)) → Leads units a b (restart driver task)
unfolding restart
restart-declined {units} {a} {b} driver task x why p = record {
  to = λ first faults s is.
      subst (IsWorld units b first faults)
      (declined-as driver order.Restart _ x _ s (restart-found units a driver task first faults s is ∙ why)) (p.to first faults s is);
}

pub restart-done : {units : List CheckedUnit} {a b : Here} (driver task : ℕ)
    → restart_obstacle (driver_of a.live.ground.run driver).standing (is_some (owner_in a.live.machine task)) ≡ None
    → Leads units a b (by_plan (λ plan. both (on_run (driver_restarted driver)) (both (loads plan driver task) (say (item.Restarted driver)))))
    → Leads units a b (restart driver task)
unfolding restart
restart-done {units} {a} {b} driver task why p = record {
  to = λ first faults s is.
      subst (IsWorld units b first faults) (done-as driver order.Restart _ _ s (restart-found units a driver task first faults s is ∙ why)) (p.to first faults s is);
}

-- a change of the run, the load state, and what is said
pub loads-then : {units : List CheckedUnit} {a b c d : Here} (change : RunState → RunState) (k : Plan → Script) (said : Script) → Leads units a b (on_run change)
    → Leads units b c (by_plan k) → Leads units c d said → Leads units a d (by_plan (λ plan. both (on_run change) (both (k plan) said)))
loads-then change k said p q r = record {
  to = λ first faults s is.
      r.to first faults (does (k s.plan) (does (on_run change) s)) (q.to first faults (does (on_run change) s) (p.to first faults s is));
}

-- an obstacle leaves a task idle
pub load-idle : (standing : Standing) (init : Option ℕ) (o : Option ℕ) → load_obstacle standing init (is_some o) ≡ None → o ≡ None
load-idle standing init None e = refl
load-idle Absent None (Some x) e = absurd cc
load-idle Absent (Some f) (Some x) e = absurd cc
load-idle Loaded init (Some x) e = absurd cc
load-idle Failed init (Some x) e = absurd cc

pub restart-idle : (standing : Standing) (o : Option ℕ) → restart_obstacle standing (is_some o) ≡ None → o ≡ None
restart-idle standing None e = refl
restart-idle Absent (Some x) e = absurd cc
restart-idle Loaded (Some x) e = absurd cc
restart-idle Failed (Some x) e = absurd cc

-- ---- `unload`

unload-found : (units : List CheckedUnit) (a : Here) (driver : ℕ) (busy : Bool) (first : Option (List ℕ)) (faults : ℕ) (s : WorldState)
    → has_activity s.tasks driver ≡ busy → IsWorld units a first faults s
    → unload_obstacle (driver_of s.run driver).standing (has_activity s.tasks driver) ≡ unload_obstacle (driver_of a.live.ground.run driver).standing busy
unload-found units a driver busy first faults s known is =
    ap (λ (r : RunState). unload_obstacle (driver_of r driver).standing (has_activity s.tasks driver)) (sym is.ground.run)
    ∙ ap (unload_obstacle (driver_of a.live.ground.run driver).standing) known

-- whether the driver has an activity, as the machine tells it
pub record TellsBusy (units : List CheckedUnit) (a : Here) (driver : ℕ) (busy : Bool) : Type 0 where
  pub to : (tasks : Tasks) → HasActivities units a.live.machine tasks → has_activity tasks driver ≡ busy

pub unload-declined : {units : List CheckedUnit} {a b : Here} (driver : ℕ) (busy : Bool) (x : Obstacle) → TellsBusy units a driver busy
    → unload_obstacle (driver_of a.live.ground.run driver).standing busy ≡ Some x
    → Leads units a b (say (item.Declined driver order.Unload x)) → Leads units a b (unload driver)
unfolding unload
unload-declined {units} {a} {b} driver busy x tells why p = record {
  to = λ first faults s is.
      subst (IsWorld units b first faults)
      (declined-as driver order.Unload _ x _ s (unload-found units a driver busy first faults s (tells.to s.tasks is.activities) is ∙ why)) (p.to first faults s is);
}

pub unload-done : {units : List CheckedUnit} {a b : Here} (driver : ℕ) (busy : Bool) → TellsBusy units a driver busy
    → unload_obstacle (driver_of a.live.ground.run driver).standing busy ≡ None
    → Leads units a b (both (say (item.Unloaded driver)) (takes_back driver (driver_unloaded driver))) → Leads units a b (unload driver)
unfolding unload
unload-done {units} {a} {b} driver busy tells why p = record {
  to = λ first faults s is.
      subst (IsWorld units b first faults)
      (done-as driver order.Unload _ _ s (unload-found units a driver busy first faults s (tells.to s.tasks is.activities) is ∙ why)) (p.to first faults s is);
}

-- an activity of a task is the driver's exactly where the machine says so
owned-by : (units : List CheckedUnit) (machine : List Task) (task owner : ℕ) (o : Option ℕ) → is_owned owner (running_by units machine task o) ≡ is_by owner o
owned-by units machine task owner None = refl
owned-by units machine task owner (Some k) = refl

owned-is : (units : List CheckedUnit) (machine : List Task) (tasks : Tasks) (task owner : ℕ) → HasActivities units machine tasks
    → is_owned owner (activity_of tasks task) ≡ is_by owner (owner_in machine task)
owned-is units machine tasks task owner has = ap (is_owned owner) (has.each task) ∙ owned-by units machine task owner (owner_in machine task)

none-owned : (owner : ℕ) (tasks : Tasks) → ((task : ℕ) → task < length tasks → is_owned owner (activity_of tasks task) ≡ false) → has_activity tasks owner ≡ false
none-owned owner [] none = refl
none-owned owner (x ∷ xs) none =
    let here : is_owned owner x ≡ false = none 0 (omega arith) in
    let more : has_activity xs owner ≡ false = none-owned owner xs (λ task below. none (suc task) (omega (arith, below))) in
    cc

some-owned : (owner : ℕ) (tasks : Tasks) (task : ℕ) → is_owned owner (activity_of tasks task) ≡ true → has_activity tasks owner ≡ true
some-owned owner [] task is = absurd (true≢false (sym is))
some-owned owner (x ∷ xs) zero is = ap (λ t. t || has_activity xs owner) is
some-owned owner (x ∷ xs) (suc task) is = or-true (is_owned owner x) (has_activity xs owner) (some-owned owner xs task is)

pub tells-none : (units : List CheckedUnit) (a : Here) (driver : ℕ) → ((task : ℕ) → task < 9 → is_by driver (owner_in a.live.machine task) ≡ false)
    → TellsBusy units a driver false
tells-none units a driver none = record {
  to = λ tasks has.
      none-owned driver tasks (λ task below. owned-is units a.live.machine tasks task driver has ∙ none task (subst (λ n. task < n) has.nine below));
}

pub tells-some : (units : List CheckedUnit) (a : Here) (driver task : ℕ) → is_by driver (owner_in a.live.machine task) ≡ true → TellsBusy units a driver true
tells-some units a driver task one = record {
  to = λ tasks has.
      some-owned driver tasks task (owned-is units a.live.machine tasks task driver has ∙ one);
}

pub tells-busy : (units : List CheckedUnit) (a : Here) (driver : ℕ) (o : Option ℕ)
    → MatchOption o ((task : ℕ) → task < 9 → is_by driver (owner_in a.live.machine task) ≡ false) (λ task. is_by driver (owner_in a.live.machine task) ≡ true)
    → TellsBusy units a driver (is_some o)
tells-busy units a driver None none = tells-none units a driver none
tells-busy units a driver (Some task) one = tells-some units a driver task one

-- ---- what the code hands over

pub found-load : (driver state : DriverState) (init init' : Option ℕ) (busy busy' : Bool) (why : Option Obstacle) → state ≡ driver → init ≡ init' → busy ≡ busy'
    → why ≡ load_obstacle state.standing init busy → load_obstacle driver.standing init' busy' ≡ why
found-load driver state init init' busy busy' why e i b is =
    ap (λ (d : DriverState). load_obstacle d.standing init' busy') (sym e) ∙ ap (λ x. load_obstacle state.standing x busy') (sym i)
    ∙ ap (load_obstacle state.standing init) (sym b) ∙ sym is

pub found-restart : (driver state : DriverState) (busy busy' : Bool) (why : Option Obstacle) → state ≡ driver → busy ≡ busy'
    → why ≡ restart_obstacle state.standing busy → restart_obstacle driver.standing busy' ≡ why
found-restart driver state busy busy' why e b is =
    ap (λ (d : DriverState). restart_obstacle d.standing busy') (sym e) ∙ ap (restart_obstacle state.standing) (sym b) ∙ sym is

pub found-unload : (driver state : DriverState) (busy : Bool) (why : Option Obstacle) → state ≡ driver → why ≡ unload_obstacle state.standing busy
    → unload_obstacle driver.standing busy ≡ why
found-unload driver state busy why e is = ap (λ (d : DriverState). unload_obstacle d.standing busy) (sym e) ∙ sym is

pub init-none : {units : List CheckedUnit} {a : Here} (driver task : ℕ) → init_in units driver ≡ None
    → Leads units a a (by_plan (λ plan. begins_init plan driver task (init_in units driver)))
init-none {units} {a} driver task none = record {
  to = λ first faults s is.
      subst (λ o. IsWorld units a first faults (does (begins_init s.plan driver task o) s)) (sym none) is;
}

pub init-some : {units : List CheckedUnit} {a b : Here} (driver task f : ℕ) → init_in units driver ≡ Some f
    → Leads units a b (by_plan (λ plan. on_tasks (begun plan task driver f [])))
    → Leads units a b (by_plan (λ plan. begins_init plan driver task (init_in units driver)))
init-some {units} {b} driver task f some p = record {
  to = λ first faults s is.
      subst (λ o. IsWorld units b first faults (does (begins_init s.plan driver task o) s)) (sym some) (p.to first faults s is);
}

-- ---- `call`

pub fits-nothing : (function : Option ℕ) (n : ℕ) → fits_values no_unit function n ≡ false
fits-nothing None n = refl
fits-nothing (Some f) n = refl

call-found : (units : List CheckedUnit) (a : Here) (driver task : ℕ) (name : List ℕ) (n : ℕ) (first : Option (List ℕ)) (faults : ℕ) (s : WorldState)
    → IsWorld units a first faults s
    → call_obstacle (driver_of s.run driver).standing (function_named name (unit_of s.plan driver))
    (fits_values (unit_of s.plan driver) (function_named name (unit_of s.plan driver)) n) (is_live s.tasks task)
    ≡ call_obstacle (driver_of a.live.ground.run driver).standing (function_named name (unit_at units driver))
    (fits_values (unit_at units driver) (function_named name (unit_at units driver)) n) (is_some (owner_in a.live.machine task))
call-found units a driver task name n first faults s is =
    ap (λ (r : RunState). call_obstacle (driver_of r driver).standing (function_named name (unit_of s.plan driver))
    (fits_values (unit_of s.plan driver) (function_named name (unit_of s.plan driver)) n) (is_live s.tasks task)) (sym is.ground.run)
    ∙ ap (λ us. call_obstacle (driver_of a.live.ground.run driver).standing (function_named name (unit_at us driver))
    (fits_values (unit_at us driver) (function_named name (unit_at us driver)) n) (is_live s.tasks task)) is.drivers
    ∙ ap (call_obstacle (driver_of a.live.ground.run driver).standing (function_named name (unit_at units driver))
    (fits_values (unit_at units driver) (function_named name (unit_at units driver)) n)) (live-is units a.live.machine s.tasks task is.activities)

-- what the code found of a call
pub record FoundCall (units : List CheckedUnit) (a : Here) (driver task : ℕ) (name : List ℕ) (values : List ℤ) (standing : Standing)
    (function : Option ℕ) (why : Option Obstacle) : Type 0 where
  pub stands : standing ≡ (driver_of a.live.ground.run driver).standing
  pub named : function ≡ function_named name (unit_at units driver)
  pub fits : Bool
  pub fitting : fits ≡ fits_values (unit_at units driver) function (length values)
  pub busy : Bool
  pub working : busy ≡ is_some (owner_in a.live.machine task)
  pub is : why ≡ call_obstacle standing function fits busy

found-call : {units : List CheckedUnit} {a : Here} {driver task : ℕ} {name : List ℕ} {values : List ℤ} {standing : Standing} {function : Option ℕ}
    {why : Option Obstacle} → FoundCall units a driver task name values standing function why
    → call_obstacle (driver_of a.live.ground.run driver).standing (function_named name (unit_at units driver))
    (fits_values (unit_at units driver) (function_named name (unit_at units driver)) (length values)) (is_some (owner_in a.live.machine task)) ≡ why
found-call {units} {a} {driver} {task} {name} {values} {standing} {function} found =
    sym (found.is
    ∙ ap (λ t. call_obstacle t function found.fits found.busy) found.stands
    ∙ ap (λ t. call_obstacle (driver_of a.live.ground.run driver).standing function t found.busy) found.fitting
    ∙ ap (λ t. call_obstacle (driver_of a.live.ground.run driver).standing function (fits_values (unit_at units driver) function (length values)) t) found.working
    ∙ ap (λ f. call_obstacle (driver_of a.live.ground.run driver).standing f (fits_values (unit_at units driver) f (length values))
    (is_some (owner_in a.live.machine task))) found.named)

pub call-declined : {units : List CheckedUnit} {a b : Here} {driver task : ℕ} {name : List ℕ} {values : List ℤ} {standing : Standing} {function : Option ℕ}
    {why : Option Obstacle} (x : Obstacle) → FoundCall units a driver task name values standing function why → why ≡ Some x
    → Leads units a b (say (item.Declined driver order.Call x)) → Leads units a b (call driver task name values)
unfolding call
call-declined {units} {a} {b} {driver} {task} {name} {values} x found is_so p = record {
  to = λ first faults s is.
      subst (IsWorld units b first faults)
      (declined-as driver order.Call _ x _ s (call-found units a driver task name (length values) first faults s is ∙ found-call found ∙ is_so)) (p.to first faults s is);
}

pub call-done : {units : List CheckedUnit} {a b : Here} {driver task : ℕ} {name : List ℕ} {values : List ℤ} {standing : Standing} {function : Option ℕ}
    {why : Option Obstacle} → FoundCall units a driver task name values standing function why → why ≡ None
    → Leads units a b (by_plan (λ plan. calls plan driver task values standing function)) → Leads units a b (call driver task name values)
unfolding call
call-done {units} {a} {b} {driver} {task} {name} {values} {standing} {function} found is_so p = record {
  to = λ first faults s is.
      let same : calls s.plan driver task values standing function ≡ calls s.plan driver task values (driver_of s.run driver).standing
      (function_named name (unit_of s.plan driver)) =
      ap (λ t. calls s.plan driver task values t function) (found.stands ∙ ap (λ (r : RunState). (driver_of r driver).standing) is.ground.run)
      ∙ ap (calls s.plan driver task values (driver_of s.run driver).standing) (found.named ∙ ap (λ us. function_named name (unit_at us driver)) (sym is.drivers)) in
      subst (IsWorld units b first faults)
      (done-as driver order.Call _ _ s (call-found units a driver task name (length values) first faults s is ∙ found-call found ∙ is_so))
      (subst (λ f. IsWorld units b first faults (does f s)) same (p.to first faults s is));
}

-- where a loaded driver's call meets no obstacle its task is idle
call-idle-by : (function : Option ℕ) (fits : Bool) (o : Option ℕ) → call_obstacle Loaded function fits (is_some o) ≡ None → o ≡ None
call-idle-by function fits None e = refl
call-idle-by None fits (Some x) e = absurd cc
call-idle-by (Some f) true (Some x) e = absurd cc
call-idle-by (Some f) false (Some x) e = absurd cc

pub call-idle : {units : List CheckedUnit} {a : Here} {driver task : ℕ} {name : List ℕ} {values : List ℤ} {standing : Standing} {function : Option ℕ}
    {why : Option Obstacle} → FoundCall units a driver task name values standing function why → why ≡ None → standing ≡ Loaded
    → owner_in a.live.machine task ≡ None
call-idle {a} {task} {standing} {function} found is_so loaded =
    call-idle-by function found.fits (owner_in a.live.machine task)
    (ap (λ t. call_obstacle t function found.fits (is_some (owner_in a.live.machine task))) (sym loaded)
    ∙ ap (call_obstacle standing function found.fits) (sym found.working) ∙ sym found.is ∙ is_so)

pub calls-is : {units : List CheckedUnit} {a b : Here} (driver task : ℕ) (values : List ℤ) (standing standing' : Standing) (function function' : Option ℕ)
    → standing ≡ standing' → function ≡ function' → Leads units a b (by_plan (λ plan. calls plan driver task values standing' function'))
    → Leads units a b (by_plan (λ plan. calls plan driver task values standing function))
calls-is {units} {a} {b} driver task values standing standing' function function' s f p =
    subst (λ t. Leads units a b (by_plan (λ plan. calls plan driver task values t function))) (sym s)
    (subst (λ t. Leads units a b (by_plan (λ plan. calls plan driver task values standing' t))) (sym f) p)

pub calls-failed : {units : List CheckedUnit} {a b : Here} (driver task : ℕ) (values : List ℤ) (function : Option ℕ)
    → Leads units a b (say (item.Answered (record { owner = driver; task = task }) (negsuc 4)))
    → Leads units a b (by_plan (λ plan. calls plan driver task values Failed function))
calls-failed driver task values function p = record { to = λ first faults s is. p.to first faults s is }

pub calls-absent : {units : List CheckedUnit} {a : Here} (driver task : ℕ) (values : List ℤ) (function : Option ℕ)
    → Leads units a a (by_plan (λ plan. calls plan driver task values Absent function))
calls-absent driver task values function = record { to = λ first faults s is. is }

pub calls-none : {units : List CheckedUnit} {a : Here} (driver task : ℕ) (values : List ℤ)
    → Leads units a a (by_plan (λ plan. calls plan driver task values Loaded None))
calls-none driver task values = record { to = λ first faults s is. is }

pub calls-some : {units : List CheckedUnit} {a b : Here} (driver task : ℕ) (values : List ℤ) (f : ℕ)
    → Leads units a b (by_plan (λ plan. on_tasks (begun plan task driver f values)))
    → Leads units a b (by_plan (λ plan. calls plan driver task values Loaded (Some f)))
calls-some driver task values f p = record { to = λ first faults s is. p.to first faults s is }

-- ---- the kernel, and the devices

pub beside-kernel : (e : KernelEvent) → IsBeside (kernel e)
unfolding kernel
beside-kernel e = record { tasks = λ s. refl; memories = λ s. refl }

pub devices-changed : (units : List CheckedUnit) (a b : Here) (change : Scripted → Scripted) → b.live.machine ≡ a.live.machine
    → ((names : ℕ → ℕ → List ℕ) → Carries a.live.ground b.live.ground a.told b.told names (on_devices change)) → Leads units a b (on_devices change)
devices-changed units a b change machine carries =
    leads-ground units a b (on_devices change) (record { tasks = λ s. refl; memories = λ s. refl }) machine (carries (names_in units))

-- ---- a task with an activity of a driver

abbrev pub NoneBefore : List Task → ℕ → ℕ → Type 0
NoneBefore machine owner n = (task : ℕ) → task < n → is_by owner (owner_in machine task) ≡ false

pub none-first : (machine : List Task) (owner : ℕ) → NoneBefore machine owner 0
none-first machine owner task below = absurd (omega (arith, below))

pub none-next : (machine : List Task) (owner n : ℕ) → NoneBefore machine owner n → is_by owner (owner_in machine n) ≡ false → NoneBefore machine owner (n + 1)
none-next machine owner n before here task below = by (nat_eq task n) refl
  where
    by : (b : Bool) → nat_eq task n ≡ b → is_by owner (owner_in machine task) ≡ false
    by true e = let same : task ≡ n = grind (arith, nat_tests) in ap (λ k. is_by owner (owner_in machine k)) same ∙ here
    by false e =
        let apart : task ≢ n = grind (arith, nat_tests) in
        before task (omega (arith, below, apart))

pub none-all : (machine : List Task) (owner n : ℕ) → (n < 9 → ⊥) → NoneBefore machine owner n → NoneBefore machine owner 9
none-all machine owner n end before task below = before task (omega (arith, below, end))
