-- The step of a task, from what the calls of the code tell: how an activity ends, a step of the machine, and a task without an activity.
-- Here: left-lock, left-mask, left-none, ends-failing, ends-told, left-live, left-idle, task-driver, task-place, task-steps, idle-acts, no-driver, task-acts
use Rattle.std.proofs.Common.{◌≡◌, ℕ, zero, suc, ◌-◌, ◌≤◌, ◌<◌, Bool, true, false, not, ◌&&◌, cond, List, [], ◌∷◌, length, slice_get, slice_set, ℤ, Option, None, Some, refl, sym, ap, ◌∙◌, subst, arith}
use Rattle.std.specs.Prelude.{slice_index_or}
use Rattle.std.specs.List.{list_any}
use Rattle.sd_base.specs.declared.actors.Who.{Who}
use Rattle.sd_base.specs.declared.kinds.FailKind.{FailKind}
use Rattle.sd_base.specs.declared.kinds.FailKind.TheVariants.{Held, Masked}
use Rattle.sd_base.specs.History.{History, live_of, mask_key, is_of}
use Rattle.share_table.specs.Locks.{takes_lock}
use Rattle.byte_memory.specs.Tested.{Memory}
use Rattle.device_model.specs.Scripted.{Scripted}
use Rattle.checked_tree.specs.declared.kernel.KernelCall.{KernelCall}
use Rattle.checked_tree.specs.declared.units.CheckedUnit.{CheckedUnit}
use Rattle.checked_tree.specs.Step as tree
use Rattle.driver_machine.specs.declared.step_out.StepOut.{StepOut}
use Rattle.driver_machine.specs.declared.step_out.StepOut.TheVariants as out
use Rattle.driver_machine.specs.Machines.{owner_in, activity_in, Belongs, OthersStay, owner_after}
use Rattle.driver_machine.specs.Tasks.{ComesTo}
use Rattle.driver_host.specs.declared.host.Host.{Host}
use Rattle.driver_host.specs.Hosting.{IsHost, AreArenas, cleared, Reads}
use Rattle.driver_host.specs.Printing.{out as told}
use Rattle.driver_safety.specs.OutsideLaw.{IsThere}
use Rattle.safe_code.specs.Drivers.{Driver}
use Rattle.world_core.specs.WorldState.{WorldState, with_activity, bytes_of}
use Rattle.world_core.specs.Script.{say, on_tasks, does}
use Rattle.world_core.specs.Failing.{fails}
use Rattle.world_core.specs.Stepping.{ends_by, left_held, done_item, acts_as, acts}
use Rattle.world.specs.declared.live.Live.{Live}
use Rattle.world.specs.Standing.{units_of, driver_at, unit_at, running_by, BelongsBy, HasActivities, Here, here, IsWorld, IsGood, Leads}
use Rattle.world.specs.Stepped.{left_by, Steps, IsSomewhere}
use Rattle.world.proofs.Arenas.{granted-there}
use Rattle.world.proofs.Begun.{unit-some}
use Rattle.world.proofs.Callers.{arenas-at, memory-count}
use Rattle.world.proofs.Composing.{leads-by_history, leads-on_tasks}
use Rattle.world.proofs.MemoryKept.{comes-kept}
use Rattle.world.proofs.Standing.{leads-then, leads-is}
use Rattle.world.proofs.Steps.{set-same, memory-is, steps-lead, acts-follow}

-- ---- by what an activity fails that ends

pub left-lock : (h : History) (who : Who) (lock : Bool) → lock ≡ list_any (takes_lock who) (live_of h) → lock ≡ true → Some Held ≡ left_held h who
left-lock h who lock is held =
    ap (λ t. cond t (Some Held) (cond (list_any (is_of who.owner (mask_key who.task)) (live_of h)) (Some Masked) None)) (sym held ∙ is)

pub left-mask : (h : History) (who : Who) (lock mask : Bool) → lock ≡ list_any (takes_lock who) (live_of h) → lock ≡ false
    → mask ≡ list_any (is_of who.owner (mask_key who.task)) (live_of h) → mask ≡ true → Some Masked ≡ left_held h who
left-mask h who lock mask is free is_mask held =
    ap (λ t. cond t (Some Masked) None) (sym held ∙ is_mask)
    ∙ ap (λ t. cond t (Some Held) (cond (list_any (is_of who.owner (mask_key who.task)) (live_of h)) (Some Masked) None)) (sym free ∙ is)

pub left-none : (h : History) (who : Who) (lock mask : Bool) → lock ≡ list_any (takes_lock who) (live_of h) → lock ≡ false
    → mask ≡ list_any (is_of who.owner (mask_key who.task)) (live_of h) → mask ≡ false → None ≡ left_held h who
left-none h who lock mask is free is_mask bare =
    ap (λ t. cond t (Some Masked) None) (sym bare ∙ is_mask)
    ∙ ap (λ t. cond t (Some Held) (cond (list_any (is_of who.owner (mask_key who.task)) (live_of h)) (Some Masked) None)) (sym free ∙ is)

-- ---- an activity ends

-- the task of which the machine has no activity has none
freed : {units : List CheckedUnit} {a : Here} (task : ℕ) → owner_in a.live.machine task ≡ None → Leads units a a (on_tasks (with_activity task None))
freed {units} {a} task idle = leads-on_tasks units a a (with_activity task None)
    (λ tasks has. subst (HasActivities units a.live.machine)
    (sym (set-same tasks task None) ∙ ap (λ x. with_activity task x tasks) (has.each task ∙ ap (running_by units a.live.machine task) idle)) has)
    refl refl

module _ {units : List CheckedUnit} {a b : Here} (who : Who) (line : ℕ) (value : Option ℤ) (held : Option FailKind)
    (reads : Reads a.live.ground.host (λ h. held ≡ left_held h who)) where
  -- in every history for which the host stands it ends alike
  ends-alike : (found : Option FailKind) → held ≡ found → Leads units a b (ends_by who line value found)
      → Leads units a b (left_by who line (out.Ended value))
  ends-alike found is p = leads-by_history (λ h. ends_by who line value (left_held h who)) (ends_by who line value found)
      (record { to = λ share h m d stands. ap (ends_by who line value) (sym is ∙ reads.to share h m d stands) }) p

  pub ends-failing : (kind : FailKind) → held ≡ Some kind → Leads units a b (fails who kind line) → Leads units a b (left_by who line (out.Ended value))
  ends-failing kind is p = ends-alike (Some kind) is p

  pub ends-told : held ≡ None → owner_in a.live.machine who.task ≡ None → Leads units a b (say (done_item who value))
      → Leads units a b (left_by who line (out.Ended value))
  ends-told is idle told = ends-alike None is (leads-then (freed who.task idle) told)

-- ---- whose activity a task has by the answer

pub left-live : (o o' : Option ℕ) (answer : StepOut) (call : KernelCall) → o ≡ owner_after answer o' → answer ≡ out.Wants call → o ≡ o'
left-live o o' answer call is e = is ∙ ap (λ x. owner_after x o') e

pub left-idle : (o o' : Option ℕ) (answer : StepOut) (value : Option ℤ) → o ≡ owner_after answer o' → answer ≡ out.Ended value → o ≡ None
left-idle o o' answer value is e = is ∙ ap (λ x. owner_after x o') e

-- ---- the driver of a task

module _ {units : List CheckedUnit} {at : Here} (task owner : ℕ) (live : owner_in at.live.machine task ≡ Some owner) where
  pub belongs-in : {first : Option (List ℕ)} {faults : ℕ} {s : WorldState} → IsWorld units at first faults s
      → Belongs (unit_at units owner) at.live.machine task × (1 ≤ owner) × (owner ≤ length units)
  belongs-in is = subst (BelongsBy units at.live.machine task) live (is.activities.belongs task)

  -- its number is one to four
  pub task-driver : IsGood units at → (0 < owner) × (owner ≤ 4)
  task-driver good =
      let belongs = belongs-in good.is in
      let few = good.is.few in
      let some = belongs.1 in
      let within = belongs.2 in
      (omega (arith, some), omega (arith, within, few))

  -- its memory has its place
  pub task-place : IsGood units at → (1 ≤ owner) × (owner ≤ length at.live.ground.host.memories.items)
  task-place good =
      let s = good.state in
      let belongs = belongs-in good.is in
      let many = memory-count s.plan.share at.live.ground.host s.history s.memories s.devices good.is.ground.host in
      let all = good.is.memories in
      let within = belongs.2 in
      (belongs.1, omega (arith, many, all, within))

-- it belongs to its driver
pub task-belongs : {at : Here} (drivers : List Driver) (task owner : ℕ) (d : Driver) → owner_in at.live.machine task ≡ Some owner → driver_at drivers owner ≡ Some d
    → IsGood (units_of drivers) at → Belongs d.unit at.live.machine task
task-belongs {at} drivers task owner d live driver good =
    subst (λ u. Belongs u at.live.machine task) (unit-some drivers owner d driver).0 (belongs-in task owner live good.is).0

-- ---- a step of the machine

long-at : (memories : List (List ℕ)) (owner : ℕ) → 1 ≤ owner → owner ≤ length memories → AreArenas memories → length (bytes_of memories owner) ≡ 1048576
long-at memories zero some within all = absurd (omega (arith, some))
long-at memories (suc k) some within all = arenas-at memories k (omega (arith, within)) all

-- the memory at the driver's place, of which a step changes bytes
there-at : (share : ℕ) (host : Host) (h : History) (memories : List (List ℕ)) (devices : Scripted) (owner : ℕ) → IsHost share host h memories devices
    → 1 ≤ owner → owner ≤ length memories → IsThere (slice_index_or host.memories.items (owner - 1) cleared)
there-at share host h memories devices owner is some within =
    subst IsThere (sym (ap (λ ms. slice_index_or ms (owner - 1) cleared) is.bytes ∙ memory-is h memories owner some within))
    (granted-there share h owner (bytes_of memories owner) is.lawful (long-at memories owner some within is.sizes))

module _ (drivers : List Driver) (old new : Live) (who : Who) (d : Driver) (n : ℕ) (before after : List Memory) (answer : StepOut) (in_range : who.task ≤ 8)
    (driver : driver_at drivers who.owner ≡ Some d) (live : owner_in old.machine who.task ≡ Some who.owner) (good : IsSomewhere (units_of drivers) old)
    (number : n ≡ who.owner) (was : before ≡ old.ground.host.memories.items)
    (comes : ComesTo (tree.step d.unit (activity_in d.unit old.machine who.task) (slice_index_or before (n - 1) cleared))
    (activity_in d.unit old.machine who.task) (slice_index_or before (n - 1) cleared) answer (activity_in d.unit new.machine who.task) (slice_index_or after (n - 1) cleared))
    (belongs : Belongs d.unit new.machine who.task)
    (owned : owner_in new.machine who.task ≡ owner_after answer (owner_in old.machine who.task))
    (others : OthersStay who.task old.machine new.machine)
    (set : after ≡ slice_set before (n - 1) (slice_index_or after (n - 1) cleared))
    (kernel : new.ground.host.kernel ≡ old.ground.host.kernel) (devs : new.ground.host.devices ≡ old.ground.host.devices)
    (mems : new.ground.host.memories.items ≡ after)
    (run : new.ground.run ≡ old.ground.run) (silent : new.ground.is_silent ≡ old.ground.is_silent) where
  same-unit : d.unit ≡ unit_at (units_of drivers) who.owner
  same-unit = sym (unit-some drivers who.owner d driver).0

  comes-at : ComesTo (tree.step (unit_at (units_of drivers) who.owner) (activity_in (unit_at (units_of drivers) who.owner) old.machine who.task)
      (slice_index_or old.ground.host.memories.items (who.owner - 1) cleared))
      (activity_in (unit_at (units_of drivers) who.owner) old.machine who.task) (slice_index_or old.ground.host.memories.items (who.owner - 1) cleared) answer
      (activity_in (unit_at (units_of drivers) who.owner) new.machine who.task) (slice_index_or after (n - 1) cleared)
  comes-at =
      subst (λ u. ComesTo (tree.step u (activity_in u old.machine who.task) (slice_index_or old.ground.host.memories.items (who.owner - 1) cleared))
      (activity_in u old.machine who.task) (slice_index_or old.ground.host.memories.items (who.owner - 1) cleared) answer
      (activity_in u new.machine who.task) (slice_index_or after (n - 1) cleared)) same-unit
      (subst (λ (m : Memory). ComesTo (tree.step d.unit (activity_in d.unit old.machine who.task) m) (activity_in d.unit old.machine who.task) m answer
      (activity_in d.unit new.machine who.task) (slice_index_or after (n - 1) cleared))
      (ap (λ ms. slice_index_or ms (n - 1) cleared) was ∙ ap (λ k. slice_index_or old.ground.host.memories.items (k - 1) cleared) number) comes)

  set-at : new.ground.host.memories.items ≡ slice_set old.ground.host.memories.items (who.owner - 1) (slice_index_or after (n - 1) cleared)
  set-at = mems ∙ set ∙ ap (λ ms. slice_set ms (n - 1) (slice_index_or after (n - 1) cleared)) was
      ∙ ap (λ k. slice_set old.ground.host.memories.items (k - 1) (slice_index_or after (n - 1) cleared)) number

  there-now : IsThere (slice_index_or old.ground.host.memories.items (who.owner - 1) cleared)
  there-now =
      let it = good.good in
      let s = it.state in
      let some = belongs-in {units = units_of drivers} {at = here old good.kept good.written good.faults} who.task who.owner live it.is in
      there-at s.plan.share old.ground.host s.history s.memories s.devices who.owner it.is.ground.host some.1 (subst (λ k. who.owner ≤ k) (sym it.is.memories) some.2)

  -- a step of the machine is one of the world, with whatever is told
  pub task-steps : (kept : List ℕ) (written : Option (List ℕ)) (faults : ℕ)
      → Steps (units_of drivers) (here old kept written faults) (here new kept written faults) who (tree.line (activity_in d.unit old.machine who.task)) answer
  task-steps kept written faults =
      subst (λ u. Steps (units_of drivers) (here old kept written faults) (here new kept written faults) who (tree.line (activity_in u old.machine who.task)) answer)
      (sym same-unit)
      (steps-lead (units_of drivers) (here old kept written faults) (here new kept written faults) who (slice_index_or after (n - 1) cleared) answer in_range live
      (comes-kept _ _ _ _ _ answer there-now comes-at)
      (subst (λ u. Belongs u new.machine who.task) same-unit belongs) (owned ∙ ap (owner_after answer) live) others kernel devs set-at run
      (ap (λ b. told b kept written faults) silent) comes-at)

-- ---- the step of a task

-- a task without an activity does nothing
pub idle-acts : {units : List CheckedUnit} {a : Here} (task : ℕ) → owner_in a.live.machine task ≡ None → Leads units a a (acts task)
unfolding acts
idle-acts {units} {a} task idle = record {
  to = λ first faults s is.
      subst (λ o. IsWorld units a first faults (does (acts_as s.plan s.history s.memories task o) s))
      (sym (is.activities.each task ∙ ap (running_by units a.live.machine task) idle)) is;
}

-- there is no task whose driver is not there
pub no-driver : {a b : Here} (drivers : List Driver) (task owner : ℕ) → owner_in a.live.machine task ≡ Some owner → driver_at drivers owner ≡ None
    → Leads (units_of drivers) a b (acts task)
no-driver {a} {b} drivers task owner live none = record {
  to = λ first faults s is.
      let belongs = belongs-in {units = units_of drivers} {at = a} task owner live is in
      absurd (missing drivers owner none belongs.1 belongs.2);
}
  where
    beyond : (drivers : List Driver) (k : ℕ) → slice_get drivers k ≡ None → suc k ≤ length (units_of drivers) → ⊥
    beyond [] k none within = omega (arith, within)
    beyond (x ∷ xs) zero none within = cc
    beyond (x ∷ xs) (suc k) none within = beyond xs k none (omega (arith, within))

    missing : (drivers : List Driver) (owner : ℕ) → driver_at drivers owner ≡ None → 1 ≤ owner → owner ≤ length (units_of drivers) → ⊥
    missing drivers zero none some within = omega (arith, some)
    missing drivers (suc k) none some within = beyond drivers k none within

-- the world behind a step of the machine
pub good-between : {units : List CheckedUnit} {a b : Here} {who : Who} {line : ℕ} {answer : StepOut} → Steps units a b who line answer → IsGood units a → IsGood units b
good-between steps good =
    let t = steps.to good.first good.faults good.state good.is in
    record { first = good.first; faults = good.faults; state = t.state; is = t.is }

-- a step of the machine, and what is left of it
pub task-acts : {units : List CheckedUnit} {a b c : Here} {who : Who} (line line' : ℕ) {answer : StepOut} → line' ≡ line → Steps units a b who line answer
    → Leads units b c (left_by who line' answer) → Leads units a c (acts who.task)
task-acts {units} {a} {b} {c} {who} line line' {answer} same steps p = acts-follow steps (leads-is (ap (λ n. left_by who n answer) same) p)

-- ---- whether a task runs

pub ended-runs : (over has : Bool) → over ≡ true → false ≡ not over && has
ended-runs true has e = refl
ended-runs false has e = absurd cc

pub still-runs : (over has : Bool) → over ≡ false → has ≡ not over && has
still-runs false has e = refl
still-runs true has e = absurd cc
