-- A step of the machine is one of the world: whatever it comes to, it stands for a world from which what is left leads to where the step leads.
-- Here: set-same, world-with, steps-lead, acts-follow
use Rattle.std.proofs.Common.{◌≡◌, ◌≢◌, ℕ, zero, suc, ◌+◌, ◌-◌, ◌≤◌, ◌<◌, Bool, true, false, eqb, List, [], ◌∷◌, map, length, set, slice_get, slice_set, get_or, ℤ, Option, None, Some, refl, sym, ap, ◌∙◌, subst, arith}
use Rattle.std.specs.Prelude.{slice_index_or}
use Rattle.std.proofs.lemmas.Bool.Decides.{nat_tests}
use Rattle.std.proofs.lemmas.List.{length-set, get_or-set_same, get_or-set_other}
use Rattle.sd_base.specs.declared.actors.Who.{Who}
use Rattle.sd_base.specs.History.{History}
use Rattle.byte_memory.specs.Tested.{Memory}
use Rattle.checked_tree.specs.declared.units.CheckedUnit.{CheckedUnit}
use Rattle.checked_tree.specs.Outcome.{Outcome}
use Rattle.checked_tree.specs.Step as tree
use Rattle.checked_tree.specs.Step.{Activity, Next, Went, Wants, Ended}
use Rattle.driver_machine.specs.declared.step_out.StepOut.{StepOut}
use Rattle.driver_machine.specs.declared.step_out.StepOut.TheVariants as out
use Rattle.driver_machine.specs.declared.task.Task.{Task}
use Rattle.driver_machine.specs.Machines.{owner_in, activity_in, Belongs, OthersStay, owner_after}
use Rattle.driver_machine.specs.Tasks.{ComesTo}
use Rattle.device_model.specs.Scripted.{Scripted}
use Rattle.update_tracker.specs.Tracking.{Stands}
use Rattle.driver_host.specs.declared.host.Host.{Host}
use Rattle.driver_host.specs.Printing.{IsTold}
use Rattle.driver_host.specs.Hosting.{IsHost, memory_from, memories_from, cleared, AreArenas}
use Rattle.driver_host.proofs.Hosting.{memory-at}
use Rattle.world_core.specs.WorldState.{WorldState, Running, Tasks, of_owner, no_unit, memory_of, bytes_of, with_memory, activity_of, with_activity, unless_owned}
use Rattle.world_core.specs.Script.{does}
use Rattle.sd_base.specs.declared.kinds.FailKind.{FailKind}
use Rattle.world_core.specs.Showing.{show}
use Rattle.world_core.specs.Failing.{fails, strays, takes_back}
use Rattle.world_core.specs.Stepping.{comes_to, goes_on_with, acts_as, acts, ends_by, left_held}
use Rattle.world_core.proofs.Keeping.{length-with_owner}
use Rattle.world.specs.Standing.{unit_at, running_by, running_in, BelongsBy, HasActivities, Here, IsWorld, Leads}
use Rattle.world.specs.Kept.{IsKept}
use Rattle.world.specs.Stepped.{left_by, Between, Steps}
use Rattle.world.proofs.Dropping.{kept-running, kept-belongs, unless-yes}

-- ---- lists

-- what stands there already is put there
pub set-same : {A : Type 0} (xs : List A) (k : ℕ) (none : A) → set xs k (get_or xs k none) ≡ xs
set-same [] k none = refl
set-same (x ∷ xs) zero none = refl
set-same (x ∷ xs) (suc k) none = ap (λ ys. x ∷ ys) (set-same xs k none)

-- ---- one memory

-- the memory at a driver's place is the driver's
pub memory-is : (h : History) (memories : List (List ℕ)) (owner : ℕ) → 1 ≤ owner → owner ≤ length memories
    → slice_index_or (memories_from 1 h memories) (owner - 1) cleared ≡ memory_of h memories owner
memory-is h memories zero some within = absurd (omega (arith, some))
memory-is h memories (suc k) some within =
    ap (λ i. get_or (memories_from 1 h memories) i cleared) (place k) ∙ found (memories_from 1 h memories) k cleared _ (memory-at h memories k 1 (omega (arith, within)))
    ∙ ap (λ o. memory_from o h (get_or memories k [])) (next k)
  where
    place : (k : ℕ) → suc k - 1 ≡ k
    place k = omega arith

    next : (k : ℕ) → 1 + k ≡ suc k
    next k = omega arith

    found : {A : Type 0} (xs : List A) (k : ℕ) (none x : A) → slice_get xs k ≡ Some x → get_or xs k none ≡ x
    found [] k none x e = cc e
    found (y ∷ xs) zero none x e = cc e
    found (y ∷ xs) (suc k) none x e = found xs k none x e

-- the memories with one of them changed, of which the same ranges are granted
pub memory-set : (h : History) (memories : List (List ℕ)) (k from : ℕ) (m : Memory) → k < length memories → m.granted ≡ (memory_from (from + k) h []).granted
    → slice_set (memories_from from h memories) k m ≡ memories_from from h (set memories k m.bytes)
memory-set h [] k from m within same = absurd (omega (arith, within))
memory-set h (b ∷ more) zero from m within same =
    ap (λ g. record { bytes = m.bytes; granted = g } ∷ memories_from (suc from) h more) (same ∙ ap (λ o. (memory_from o h []).granted) (omega arith))
memory-set h (b ∷ more) (suc k) from m within same =
    ap (λ ms. memory_from from h b ∷ ms) (memory-set h more k (suc from) m (omega (arith, within)) (same ∙ ap (λ o. (memory_from o h []).granted) (omega arith)))

pub arenas-set : (memories : List (List ℕ)) (k : ℕ) (bytes : List ℕ) → k < length memories → length bytes ≡ length (get_or memories k []) → AreArenas memories
    → AreArenas (set memories k bytes)
arenas-set [] k bytes within same all = absurd (omega (arith, within))
arenas-set (b ∷ more) zero bytes within same all = (same ∙ all.0, all.1)
arenas-set (b ∷ more) (suc k) bytes within same all = (all.0, arenas-set more k bytes (omega (arith, within)) same all.1)

-- ---- the world with one activity and its driver's memory changed

-- a task with the activity that the machine has for it now
pub tasks-with : (units : List CheckedUnit) (old new : List Task) (task : ℕ) (tasks : Tasks) → task ≤ 8 → OthersStay task old new → BelongsBy units new task (owner_in new task)
    → HasActivities units old tasks → HasActivities units new (with_activity task (running_in units new task) tasks)
tasks-with units old new task tasks in_range others belongs has = record {
  nine = length-set tasks task (running_in units new task) ∙ has.nine;
  each = λ other. each-by other (eqb other task) refl;
  belongs = λ other. belongs-by other (eqb other task) refl;
}
  where
    same-as : (other : ℕ) → eqb other task ≡ true → other ≡ task
    same-as other e = grind (arith, nat_tests)

    apart-from : (other : ℕ) → eqb other task ≡ false → other ≢ task
    apart-from other e same = let no : ⊥ = grind (arith, nat_tests) in no

    each-by : (other : ℕ) (b : Bool) → eqb other task ≡ b → activity_of (with_activity task (running_in units new task) tasks) other ≡ running_in units new other
    each-by other true e = subst (λ k. activity_of (with_activity task (running_in units new task) tasks) k ≡ running_in units new k) (sym (same-as other e))
        (get_or-set_same tasks task (running_in units new task) None (omega (arith, in_range, has.nine)))
    each-by other false e = get_or-set_other tasks task other (running_in units new task) None (apart-from other e) ∙ has.each other
        ∙ sym (kept-running units old new other (others other (apart-from other e)))

    belongs-by : (other : ℕ) (b : Bool) → eqb other task ≡ b → BelongsBy units new other (owner_in new other)
    belongs-by other true e = subst (λ k. BelongsBy units new k (owner_in new k)) (sym (same-as other e)) belongs
    belongs-by other false e = kept-belongs units old new other (others other (apart-from other e)) (has.belongs other)

-- the host with one driver's memory changed
pub host-with : (old new : Host) (share : ℕ) (h : History) (memories : List (List ℕ)) (devices : Scripted) (owner : ℕ) (m' : Memory) → 1 ≤ owner → owner ≤ length memories
    → IsKept (slice_index_or old.memories.items (owner - 1) cleared) m' → new.kernel ≡ old.kernel → new.devices ≡ old.devices
    → new.memories.items ≡ slice_set old.memories.items (owner - 1) m'
    → IsHost share old h memories devices → IsHost share new h (with_memory owner m'.bytes memories) devices
host-with old new share h memories devices zero m' some within kept kernel devs mems is = absurd (omega (arith, some))
host-with old new share h memories devices (suc k) m' some within kept kernel devs mems is = record {
  holders = ap (λ t. t.kernel.claims.share) kernel ∙ is.holders;
  lawful = is.lawful;
  proper = is.proper;
  tables = subst (λ t. Stands t h) (sym kernel) is.tables;
  sizes = arenas-set memories k m'.bytes (omega (arith, within)) (kept.bytes ∙ ap (λ m. length m.bytes) was) is.sizes;
  bytes = mems ∙ ap (λ i. slice_set old.memories.items i m') (place k) ∙ ap (λ ms. slice_set ms k m') is.bytes
      ∙ memory-set h memories k 1 m' (omega (arith, within)) (kept.granted ∙ ap (λ m. m.granted) was ∙ ap (λ o. (memory_from o h []).granted) (next k));
  answers = devs ∙ is.answers;
  clock = is.clock;
}
  where
    place : (k : ℕ) → suc k - 1 ≡ k
    place k = omega arith

    next : (k : ℕ) → suc k ≡ 1 + k
    next k = omega arith

    was : slice_index_or old.memories.items (suc k - 1) cleared ≡ memory_of h memories (suc k)
    was = ap (λ ms. slice_index_or ms (suc k - 1) cleared) is.bytes ∙ memory-is h memories (suc k) some within

-- ---- a step

set-twice : {A : Type 0} (xs : List A) (k : ℕ) (x : A) → set (set xs k x) k x ≡ set xs k x
set-twice [] k x = refl
set-twice (y ∷ xs) zero x = refl
set-twice (y ∷ xs) (suc k) x = ap (λ ys. y ∷ ys) (set-twice xs k x)

-- what is taken away in any case may be gone already
map-gone : {A : Type 0} (f : A → A) (xs : List A) (k : ℕ) (none : A) → f (get_or xs k none) ≡ f none → map f (set xs k none) ≡ map f xs
map-gone f [] k none e = refl
map-gone f (x ∷ xs) zero none e = ap (λ y. y ∷ map f xs) (sym e)
map-gone f (x ∷ xs) (suc k) none e = ap (λ ys. f x ∷ ys) (map-gone f xs k none e)

module _ (units : List CheckedUnit) (a b : Here) (who : Who) (m' : Memory) (answer : StepOut) (in_range : who.task ≤ 8)
    (live : owner_in a.live.machine who.task ≡ Some who.owner)
    (kept : IsKept (slice_index_or a.live.ground.host.memories.items (who.owner - 1) cleared) m')
    (belongs : Belongs (unit_at units who.owner) b.live.machine who.task)
    (owned : owner_in b.live.machine who.task ≡ owner_after answer (Some who.owner))
    (others : OthersStay who.task a.live.machine b.live.machine)
    (kernel : b.live.ground.host.kernel ≡ a.live.ground.host.kernel) (devs : b.live.ground.host.devices ≡ a.live.ground.host.devices)
    (mems : b.live.ground.host.memories.items ≡ slice_set a.live.ground.host.memories.items (who.owner - 1) m')
    (run : b.live.ground.run ≡ a.live.ground.run) (told : b.told ≡ a.told) where
  abbrev pub unit-of : CheckedUnit
  unit-of = unit_at units who.owner

  abbrev pub frames-of : Activity
  frames-of = activity_in unit-of a.live.machine who.task

  abbrev pub memory-before : Memory
  memory-before = slice_index_or a.live.ground.host.memories.items (who.owner - 1) cleared

  module _ (first : Option (List ℕ)) (faults : ℕ) (s : WorldState) (is : IsWorld units a first faults s) where
    in-units : (1 ≤ who.owner) × (who.owner ≤ length units)
    in-units = let h : BelongsBy units a.live.machine who.task (Some who.owner) = subst (BelongsBy units a.live.machine who.task) live (is.activities.belongs who.task) in (h.1, h.2)

    in-memories : who.owner ≤ length s.memories
    in-memories = subst (λ n. who.owner ≤ n) (sym is.memories) in-units.1

    was-running : activity_of s.tasks who.task ≡ Some (record { owner = who.owner; frames = frames-of })
    was-running = is.activities.each who.task ∙ ap (running_by units a.live.machine who.task) live

    was-memory : memory-before ≡ memory_of s.history s.memories who.owner
    was-memory = ap (λ ms. slice_index_or ms (who.owner - 1) cleared) is.ground.host.bytes ∙ memory-is s.history s.memories who.owner in-units.0 in-memories

    -- the step that the definition takes
    acts-is : does (acts who.task) s ≡ does (comes_to who (tree.line frames-of) (tree.step unit-of frames-of memory-before)) s
    unfolding acts
    acts-is = ap (λ o. does (acts_as s.plan s.history s.memories who.task o) s) was-running
        ∙ ap (λ us. does (comes_to who (tree.line frames-of) (tree.step (of_owner no_unit us who.owner) frames-of (memory_of s.history s.memories who.owner))) s) is.drivers
        ∙ ap (λ m. does (comes_to who (tree.line frames-of) (tree.step unit-of frames-of m)) s) (sym was-memory)

    follows : (o : Outcome Next) → tree.step unit-of frames-of memory-before ≡ o → does (comes_to who (tree.line frames-of) o) s ≡ does (acts who.task) s
    follows o e = sym (acts-is ∙ ap (λ x. does (comes_to who (tree.line frames-of) x) s) e)

    belonging : BelongsBy units b.live.machine who.task (owner_in b.live.machine who.task)
    belonging = subst (BelongsBy units b.live.machine who.task) (sym owned) (by answer)
      where
        by : (answer : StepOut) → BelongsBy units b.live.machine who.task (owner_after answer (Some who.owner))
        by out.Went = (belongs, in-units.0, in-units.1)
        by (out.Wants call) = (belongs, in-units.0, in-units.1)
        by (out.Ended value) = tt
        by (out.Failed at kind) = (belongs, in-units.0, in-units.1)
        by (out.Wild at) = (belongs, in-units.0, in-units.1)

    world-with : (x : Option Running) → running_in units b.live.machine who.task ≡ x
        → IsWorld units b first faults (record s { tasks = with_activity who.task x s.tasks; memories = with_memory who.owner m'.bytes s.memories })
    world-with x e = record {
      drivers = is.drivers;
      few = is.few;
      memories = length-with_owner s.memories who.owner m'.bytes ∙ is.memories;
      ground = record {
        run = run ∙ is.ground.run;
        host = host-with a.live.ground.host b.live.ground.host s.plan.share s.history s.memories s.devices who.owner m' in-units.0 in-memories kept kernel devs mems is.ground.host;
        told = subst (λ o. IsTold o first faults s.said) (sym told) is.ground.told;
      };
      activities = subst (λ y. HasActivities units b.live.machine (with_activity who.task y s.tasks)) e
          (tasks-with units a.live.machine b.live.machine who.task s.tasks in_range others belonging is.activities);
    }

    same-memories : m' ≡ memory-before → with_memory who.owner m'.bytes s.memories ≡ s.memories
    same-memories e = ap (λ m. with_memory who.owner m.bytes s.memories) (e ∙ was-memory) ∙ put-back s.memories who.owner
      where
        put-back : (memories : List (List ℕ)) (owner : ℕ) → with_memory owner (bytes_of memories owner) memories ≡ memories
        put-back memories zero = refl
        put-back memories (suc k) = set-same memories k []

    -- the activity and the memory are as they were
    unchanged : running_in units b.live.machine who.task ≡ Some (record { owner = who.owner; frames = frames-of }) → m' ≡ memory-before → IsWorld units b first faults s
    unchanged e same = subst (λ t. IsWorld units b first faults t)
        (ap (λ ms. record s { tasks = with_activity who.task (Some (record { owner = who.owner; frames = frames-of })) s.tasks; memories = ms }) (same-memories same)
        ∙ ap (λ x. record s { tasks = with_activity who.task x s.tasks }) (sym was-running) ∙ ap (λ ts. record s { tasks = ts }) (set-same s.tasks who.task None))
        (world-with _ e)

    -- an activity that ends is gone already where its driver is taken back
    ended-taken : (kind : FailKind) (line : ℕ) → does (fails who kind line) (record s { tasks = with_activity who.task None s.tasks }) ≡ does (fails who kind line) s
    unfolding fails takes_back show
    ended-taken kind line = ap (λ ts. record (does (fails who kind line) s) { tasks = ts }) (map-gone (unless_owned who.owner) s.tasks who.task None gone)
      where
        eqb-self : (k : ℕ) → eqb k k ≡ true
        eqb-self k = grind (arith, nat_tests)

        gone : unless_owned who.owner (get_or s.tasks who.task None) ≡ unless_owned who.owner None
        gone = ap (unless_owned who.owner) was-running ∙ unless-yes who.owner _ (eqb-self who.owner)

    ended-same : (line : ℕ) (value : Option ℤ) (held : Option FailKind)
        → does (ends_by who line value held) (record s { tasks = with_activity who.task None s.tasks }) ≡ does (ends_by who line value held) s
    ended-same line value None = ap (λ ts. record (does (ends_by who line value None) s) { tasks = ts }) (set-twice s.tasks who.task None)
    ended-same line value (Some kind) = ended-taken kind line

    frames-now : {frames : Activity} → owner_in b.live.machine who.task ≡ Some who.owner → activity_in unit-of b.live.machine who.task ≡ frames
        → running_in units b.live.machine who.task ≡ Some (record { owner = who.owner; frames = frames })
    frames-now e same = ap (running_by units b.live.machine who.task) e ∙ ap (λ fs. Some (record { owner = who.owner; frames = fs })) same

    between : (out : StepOut) → owner_in b.live.machine who.task ≡ owner_after out (Some who.owner)
        → ComesTo (tree.step unit-of frames-of memory-before) frames-of memory-before out (activity_in unit-of b.live.machine who.task) m'
        → Between units b who (tree.line frames-of) out first faults s
    between out.Went owner h = record {
      state = does (goes_on_with who (activity_in unit-of b.live.machine who.task) m') s;
      is = world-with _ (frames-now owner refl);
      same = follows _ h;
    }
    between (out.Wants call) owner h = record { state = s; is = unchanged (frames-now owner h.1) h.2; same = follows _ h.0 }
    between (out.Ended value) owner h = record {
      state = record s { tasks = with_activity who.task None s.tasks };
      is = subst (λ ms. IsWorld units b first faults (record s { tasks = with_activity who.task None s.tasks; memories = ms })) (same-memories h.2)
          (world-with None (ap (running_by units b.live.machine who.task) owner));
      same = ended-same (tree.line frames-of) value (left_held s.history who) ∙ follows _ h.0;
    }
    between (out.Failed at kind) owner h = record { state = s; is = unchanged (frames-now owner h.1) h.2; same = follows _ h.0 }
    between (out.Wild at) owner h = record { state = s; is = unchanged (frames-now owner h.2) h.3; same = ap (λ n. does (strays who n) s) h.1 ∙ follows _ h.0 }

  -- whatever the machine answers
  pub steps-lead : ComesTo (tree.step unit-of frames-of memory-before) frames-of memory-before answer (activity_in unit-of b.live.machine who.task) m'
      → Steps units a b who (tree.line frames-of) answer
  steps-lead h = record { to = λ first faults s is. between first faults s is answer owned h }

-- what is left of a step, and then it is done
pub acts-follow : {units : List CheckedUnit} {a b c : Here} {who : Who} {line : ℕ} {answer : StepOut} → Steps units a b who line answer → Leads units b c (left_by who line answer)
    → Leads units a c (acts who.task)
acts-follow {units} {c} steps p = record {
  to = λ first faults s is.
      let t = steps.to first faults s is in
      subst (IsWorld units c first faults) t.same (p.to first faults t.state t.is);
}
