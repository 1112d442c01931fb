-- A kernel call of an activity: what its driver has, and that serving, telling and answering it is what the definition says.
-- Here: its-unit, its-memory, its-belonging, its-few; answered-tasks, answered-by; asks-reply, asks-pointer, asks-said, asks-blocked, asks-fail, asks-wild
use Rattle.std.proofs.Common.{◌≡◌, ℕ, ◌≤◌, List, length, ℤ, pos, Option, Some, None, refl, sym, ap, ◌∙◌, subst, arith}
use Rattle.std.specs.Option.{option_map}
use Rattle.sd_base.specs.declared.actors.Fat.{Fat}
use Rattle.sd_base.specs.declared.actors.Who.{Who}
use Rattle.sd_base.specs.declared.history.Update.{Update}
use Rattle.sd_base.specs.declared.kinds.FailKind.{FailKind}
use Rattle.sd_base.specs.History.{History}
use Rattle.device_model.specs.Scripted.{Scripted}
use Rattle.checked_tree.specs.declared.kernel.Answer.{Answer}
use Rattle.checked_tree.specs.declared.kernel.Answer.TheVariants.{Number, Pointer as Block}
use Rattle.checked_tree.specs.declared.kernel.KernelCall.{KernelCall}
use Rattle.checked_tree.specs.declared.units.CheckedUnit.{CheckedUnit}
use Rattle.checked_tree.specs.Step as tree
use Rattle.checked_tree.specs.Step.{Activity}
use Rattle.safe_code.specs.Drivers.{Driver}
use Rattle.wrappers.specs.declared.call_out.CallOut.{CallOut}
use Rattle.wrappers.specs.declared.call_out.CallOut.TheVariants.{Reply, Pointer, Said, Blocked, Fail, Wild}
use Rattle.wrappers.specs.declared.call_out.Saying.{Saying}
use Rattle.wrappers.specs.Served.{Served}
use Rattle.wrappers.specs.Rows.{port_taken, without_answer}
use Rattle.run_report.specs.declared.item.Item.TheVariants as item
use Rattle.driver_machine.specs.declared.task.Task.{Task}
use Rattle.driver_machine.specs.Machines.{owner_in, activity_in, Belongs, OthersStay}
use Rattle.driver_host.specs.Hosting.{IsHost}
use Rattle.driver_host.specs.Printing.{IsTold}
use Rattle.world_core.specs.WorldState.{WorldState, Tasks, activity_of, with_activity}
use Rattle.world_core.specs.Script.{Script, say, on_run, on_tasks, on_devices, updates_if, does, ◌>>◌}
use Rattle.world_core.specs.Failing.{fails, strays}
use Rattle.world_core.specs.Calling.{with_answer, task_answered, waits_for_lock, said_item, told, asks}
use Rattle.world.specs.Asking.{HasMemory}
use Rattle.world.specs.Serving.{grown, after_call, comes_to, ServesCaller}
use Rattle.world.specs.Standing.{units_of, driver_at, unit_at, running_by, running_in, BelongsBy, HasActivities, Here, IsWorld, IsGood, Leads}
use Rattle.world.proofs.Begun.{unit-some}
use Rattle.world.proofs.Steps.{tasks-with}

-- ---- what a driver that acts has

module _ (drivers : List Driver) (owner : ℕ) (d : Driver) (is_there : driver_at drivers owner ≡ Some d) where
  pub its-unit : unit_at (units_of drivers) owner ≡ d.unit
  its-unit = (unit-some drivers owner d is_there).0

  pub its-number : 1 ≤ owner
  its-number = (unit-some drivers owner d is_there).1

  pub its-count : owner ≤ length (units_of drivers)
  its-count = (unit-some drivers owner d is_there).2

  module _ (a : Here) (good : IsGood (units_of drivers) a) where
    pub its-few : owner ≤ 4
    its-few = let few = good.is.few in let most = its-count in omega (arith, few, most)

    -- it has a memory
    pub its-memory : HasMemory a.live.ground.host owner
    its-memory = record {
      share = good.state.plan.share;
      history = good.state.history;
      memories = good.state.memories;
      devices = good.state.devices;
      is = good.is.ground.host;
      some = its-number;
      within = subst (λ n. owner ≤ n) (sym good.is.memories) its-count;
      few = its-few;
    }

    -- the activity of a task is one of its unit
    pub its-belonging : (task : ℕ) → owner_in a.live.machine task ≡ Some owner → Belongs d.unit a.live.machine task
    its-belonging task live =
        let h : BelongsBy (units_of drivers) a.live.machine task (Some owner) = subst (BelongsBy (units_of drivers) a.live.machine task) live (good.is.activities.belongs task) in
        subst (λ u. Belongs u a.live.machine task) its-unit h.0

-- ---- the answer

module _ (units : List CheckedUnit) (old new : List Task) (task owner : ℕ) (reply : Answer) (in_range : task ≤ 8) (live : owner_in old task ≡ Some owner)
    (answered : activity_in (unit_at units owner) new task ≡ tree.answered (activity_in (unit_at units owner) old task) reply)
    (belongs : Belongs (unit_at units owner) new task) (owned : owner_in new task ≡ owner_in old task) (others : OthersStay task old new) where
  running-now : running_in units new task ≡ Some (record { owner = owner; frames = tree.answered (activity_in (unit_at units owner) old task) reply })
  running-now = ap (running_by units new task) (owned ∙ live) ∙ ap (λ frames. Some (record { owner = owner; frames = frames })) answered

  running-was : (tasks : Tasks) → HasActivities units old tasks
      → activity_of tasks task ≡ Some (record { owner = owner; frames = activity_in (unit_at units owner) old task })
  running-was tasks has = has.each task ∙ ap (running_by units old task) live

  belonging : (tasks : Tasks) → HasActivities units old tasks → BelongsBy units new task (owner_in new task)
  belonging tasks has =
      let h : BelongsBy units old task (Some owner) = subst (BelongsBy units old task) live (has.belongs task) in
      subst (BelongsBy units new task) (sym (owned ∙ live)) (belongs, h.1, h.2)

  pub answered-tasks : (tasks : Tasks) → HasActivities units old tasks → HasActivities units new (task_answered task reply tasks)
  answered-tasks tasks has = subst (λ r. HasActivities units new (with_activity task r tasks))
      (running-now ∙ sym (ap (option_map (with_answer reply)) (running-was tasks has)))
      (tasks-with units old new task tasks in_range others (belonging tasks has) has)

-- the same of the unit of the driver with that number
pub answered-by : (drivers : List Driver) (owner : ℕ) (d : Driver) → driver_at drivers owner ≡ Some d → (old new : List Task) (task : ℕ) (reply : Answer)
    → task ≤ 8 → owner_in old task ≡ Some owner → activity_in d.unit new task ≡ tree.answered (activity_in d.unit old task) reply
    → Belongs d.unit new task → owner_in new task ≡ owner_in old task → OthersStay task old new
    → (tasks : Tasks) → HasActivities (units_of drivers) old tasks → HasActivities (units_of drivers) new (task_answered task reply tasks)
answered-by drivers owner d is_there old new task reply in_range live answered belongs owned others =
    answered-tasks (units_of drivers) old new task owner reply in_range live
    (subst (λ u. activity_in u new task ≡ tree.answered (activity_in u old task) reply) (sym (its-unit drivers owner d is_there)) answered)
    (subst (λ u. Belongs u new task) (sym (its-unit drivers owner d is_there)) belongs) owned others

-- ---- the call

-- the history with an update, if there is one
updates-is : (owner : ℕ) (u : Option Update) (s : WorldState) → does (updates_if owner u) s ≡ record s { history = grown s.plan.share owner u s.history }
updates-is owner None s = refl
updates-is owner (Some u) s = refl

module _ (units : List CheckedUnit) (a c : Here) (who : Who) (line : ℕ) (call : KernelCall) (out : CallOut)
    (serves : ServesCaller a.live.ground.host who call out c.live.ground.host) (run : c.live.ground.run ≡ a.live.ground.run) (said : c.told ≡ a.told) where
  module _ (first : Option (List ℕ)) (faults : ℕ) (s : WorldState) (is : IsWorld units a first faults s) where
    abbrev pub it : Served
    it = comes_to s.plan.share s.history s.memories s.devices who call

    out-is : out ≡ it.out
    out-is = serves.answered s.plan.share s.history s.memories s.devices is.ground.host

    stands : after_call s.plan.share who it.update (port_taken s.history who call) out c.live.ground.host s.history s.memories s.devices
    stands = serves.stands s.plan.share s.history s.memories s.devices is.ground.host

    -- a call that comes to this does this
    asks-does : (o : CallOut) → out ≡ o → does (told who line it.update (port_taken s.history who call) o) s ≡ does (asks who line call) s
    unfolding asks
    asks-does o e = ap (λ x. does (told who line it.update (port_taken s.history who call) x) s) (sym e ∙ out-is)

    after : (h : History) (devices : Scripted) (tasks : Tasks) → IsHost s.plan.share c.live.ground.host h s.memories devices
        → HasActivities units c.live.machine tasks → IsWorld units c first faults (record s { history = h; devices = devices; tasks = tasks })
    after h devices tasks host activities = record {
      drivers = is.drivers;
      few = is.few;
      memories = is.memories;
      ground = record { run = run ∙ is.ground.run; host = host; told = subst (λ o. IsTold o first faults s.said) (sym said) is.ground.told };
      activities = activities;
    }

  module _ (reply : Answer) (has : (tasks : Tasks) → HasActivities units a.live.machine tasks → HasActivities units c.live.machine (task_answered who.task reply tasks)) where
    replied : (n : ℤ) → out ≡ Reply n → reply ≡ Number n → (first : Option (List ℕ)) (faults : ℕ) (s : WorldState) → IsWorld units a first faults s
        → IsWorld units c first faults (does (asks who line call) s)
    replied n e same first faults s is =
        let done = after first faults s is _ _ _
        (subst (λ o. after_call s.plan.share who (it first faults s is).update (port_taken s.history who call) o c.live.ground.host s.history s.memories s.devices) e
        (stands first faults s is))
        (has s.tasks is.activities) in
        subst (IsWorld units c first faults)
        (ap (λ r. record s {
          history = grown s.plan.share who.owner (it first faults s is).update s.history;
          devices = without_answer (port_taken s.history who call) s.devices;
          tasks = task_answered who.task r s.tasks;
        }) same
        ∙ ap (λ w. does (on_devices (without_answer (port_taken s.history who call)) >> on_tasks (task_answered who.task (Number n))) w)
        (sym (updates-is who.owner (it first faults s is).update s))
        ∙ asks-does first faults s is (Reply n) e)
        done

    pointed : (p : Fat) → out ≡ Pointer p → reply ≡ Block p → (first : Option (List ℕ)) (faults : ℕ) (s : WorldState) → IsWorld units a first faults s
        → IsWorld units c first faults (does (asks who line call) s)
    pointed p e same first faults s is =
        let done = after first faults s is _ _ _
        (subst (λ o. after_call s.plan.share who (it first faults s is).update (port_taken s.history who call) o c.live.ground.host s.history s.memories s.devices) e
        (stands first faults s is))
        (has s.tasks is.activities) in
        subst (IsWorld units c first faults)
        (ap (λ r. record s {
          history = grown s.plan.share who.owner (it first faults s is).update s.history;
          tasks = task_answered who.task r s.tasks;
        }) same
        ∙ ap (λ w. does (on_tasks (task_answered who.task (Block p))) w) (sym (updates-is who.owner (it first faults s is).update s))
        ∙ asks-does first faults s is (Pointer p) e)
        done

  -- a number, and the devices without the answer that was taken
  pub asks-reply : (n : ℤ) → out ≡ Reply n
      → ((tasks : Tasks) → HasActivities units a.live.machine tasks → HasActivities units c.live.machine (task_answered who.task (Number n) tasks))
      → Leads units a c (asks who line call)
  asks-reply n e has = record { to = replied (Number n) has n e refl }

  -- a pointer to a block
  pub asks-pointer : (p : Fat) → out ≡ Pointer p
      → ((tasks : Tasks) → HasActivities units a.live.machine tasks → HasActivities units c.live.machine (task_answered who.task (Block p) tasks))
      → Leads units a c (asks who line call)
  asks-pointer p e has = record { to = pointed (Block p) has p e refl }

-- a call that changes nothing: what is left is this script
module _ (units : List CheckedUnit) (a b c : Here) (who : Who) (line : ℕ) (call : KernelCall) (out : CallOut)
    (serves : ServesCaller a.live.ground.host who call out b.live.ground.host) (run : b.live.ground.run ≡ a.live.ground.run)
    (machine : b.live.machine ≡ a.live.machine) (said : b.told ≡ a.told) where
  follows : (f : Script) → ((update : Option Update) (port : Option ℕ) → told who line update port out ≡ f)
      → ((share : ℕ) (update : Option Update) (port : Option ℕ) (h : History) (memories : List (List ℕ)) (devices : Scripted)
      → after_call share who update port out b.live.ground.host h memories devices → IsHost share b.live.ground.host h memories devices)
      → Leads units b c f → Leads units a c (asks who line call)
  follows f same host p = record {
    to = λ first faults s is.
        subst (IsWorld units c first faults)
        (ap (λ x. does x s) (sym (same (it units a b who line call out serves run said first faults s is).update (port_taken s.history who call)))
        ∙ asks-does units a b who line call out serves run said first faults s is out refl)
        (p.to first faults s (after units a b who line call out serves run said first faults s is s.history s.devices s.tasks
        (host _ _ _ _ _ _ (stands units a b who line call out serves run said first faults s is))
        (subst (λ m. HasActivities units m s.tasks) (sym machine) is.activities)));
  }

  pub asks-said : (saying : Saying) → out ≡ Said saying → Leads units b c (say (said_item who saying) >> on_tasks (task_answered who.task (Number (pos 0))))
      → Leads units a c (asks who line call)
  asks-said saying e p = follows _ (λ update port. ap (told who line update port) e)
      (λ share update port h memories devices. subst (λ o. after_call share who update port o b.live.ground.host h memories devices) e) p

  pub asks-blocked : (lock : ℤ) → out ≡ Blocked lock → Leads units b c (say (item.Blocked who lock) >> on_run waits_for_lock) → Leads units a c (asks who line call)
  asks-blocked lock e p = follows _ (λ update port. ap (told who line update port) e)
      (λ share update port h memories devices. subst (λ o. after_call share who update port o b.live.ground.host h memories devices) e) p

  pub asks-fail : (kind : FailKind) → out ≡ Fail kind → Leads units b c (fails who kind line) → Leads units a c (asks who line call)
  asks-fail kind e p = follows _ (λ update port. ap (told who line update port) e)
      (λ share update port h memories devices. subst (λ o. after_call share who update port o b.live.ground.host h memories devices) e) p

  pub asks-wild : out ≡ Wild → Leads units b c (strays who line) → Leads units a c (asks who line call)
  asks-wild e p = follows _ (λ update port. ap (told who line update port) e)
      (λ share update port h memories devices. subst (λ o. after_call share who update port o b.live.ground.host h memories devices) e) p
