-- Task 0 is idle between handlers: each handler runs to its end, its failure or the end of the run, and no other activity begins there.
-- Here: Quiets, calm-good, calm-after, calm-idle, and the law of each script that a handler may follow
use Rattle.std.proofs.Common.{◌≡◌, ◌≢◌, ℕ, zero, suc, ◌+◌, ◌-◌, ◌≤◌, ◌<◌, Bool, true, false, not, ◌&&◌, ◌||◌, List, [], ◌∷◌, ℤ, pos, Option, None, Some, is_some, Ok, Err, refl, sym, ap, ◌∙◌, subst, arith, true≢false}
use Rattle.std.proofs.lemmas.Bool.Decides.{nat_tests}
use Rattle.sd_base.specs.declared.actors.Who.{Who}
use Rattle.sd_base.specs.declared.kinds.FailKind.{FailKind}
use Rattle.sd_base.specs.declared.history.Update.{Update}
use Rattle.sd_base.specs.History.{History}
use Rattle.device_model.specs.Scripted.{Scripted}
use Rattle.claim_table.specs.declared.claims.Holder.{Holder}
use Rattle.claim_table.specs.ClaimPart.{holders_of}
use Rattle.checked_tree.specs.declared.stops.Stop.TheVariants.{Failed as StopFailed, Wild as StopWild}
use Rattle.checked_tree.specs.declared.units.CheckedUnit.{CheckedUnit}
use Rattle.checked_tree.specs.Outcome.{Outcome}
use Rattle.checked_tree.specs.Step as tree
use Rattle.checked_tree.specs.Step.{Activity, Next, Went, Wants, Ended}
use Rattle.wrappers.specs.declared.call_out.CallOut.{CallOut}
use Rattle.wrappers.specs.declared.call_out.CallOut.TheVariants.{Reply, Pointer, Said, Blocked, Fail, Wild}
use Rattle.wrappers.specs.Served.{Served}
use Rattle.wrappers.specs.Rows.{served, port_taken}
use Rattle.run_report.specs.declared.item.Item.{Item}
use Rattle.run_report.specs.declared.item.Item.TheVariants as item
use Rattle.driver_machine.specs.Machines.{owner_in}
use Rattle.world_core.specs.declared.run_state.RunState.{RunState}
use Rattle.world_core.specs.WorldState.{WorldState, Plan, Running, Tasks, activity_of, with_activity, is_live, is_over, is_spent, without_activities, unit_of, memory_of, who_in}
use Rattle.world_core.specs.Script.{Script, say, updates, updates_if, on_run, on_tasks, by_plan, by_run, by_history, by_tasks, by_memories, by_devices, while_at_most, does, turns, unless_over}
use Rattle.world_core.specs.Failing.{takes_back, fails, driver_fails, strays, goes_astray}
use Rattle.world_core.specs.Calling.{asks, told, told_as, waits_for_lock}
use Rattle.world_core.specs.Stepping.{step, acts, acts_as, comes_to, ends_by, left_held, goes_on, runs_to_end, stopped, one_taken}
use Rattle.world_core.specs.Handling.{handles}
use Rattle.world_core.specs.Delivering.{with_waiting, serves, serves_each, serves_all, delivers, delivers_least, least_waiting, can_deliver, deliver, irq, still_waits}
use Rattle.world_core.proofs.Leading as walk
use Rattle.world_core.proofs.Keeping.{keep-takes_back}
use Rattle.world_core.proofs.Ending.{step-spent}
use Rattle.world_core.proofs.Counting.{step-counts}
use Rattle.world.specs.Standing.{Here, IsGood, Leads}
use Rattle.world.specs.Calm.{IsQuiet, IsCalm}
use Rattle.world.proofs.Composing.{live-is}

abbrev pub Quiets : Script → Type 0
Quiets f = walk.Leads IsQuiet IsQuiet f

-- ---- in the code's world

pub calm-good : {units : List CheckedUnit} {a : Here} → IsCalm units a → IsGood units a
calm-good calm = record { first = calm.first; faults = calm.faults; state = calm.state; is = calm.is }

pub calm-after : {units : List CheckedUnit} {a b : Here} {f : Script} → IsCalm units a → Leads units a b f → Quiets f → IsCalm units b
calm-after {f} calm p quiets = record {
  first = calm.first;
  faults = calm.faults;
  state = does f calm.state;
  is = p.to calm.first calm.faults calm.state calm.is;
  quiet = quiets.to calm.state calm.quiet;
}

none-by : (o : Option ℕ) → is_some o ≡ false → o ≡ None
none-by None e = refl
none-by (Some x) e = absurd (true≢false e)

pub calm-idle : {units : List CheckedUnit} {a : Here} → IsCalm units a → is_over a.live.ground.run ≡ false → owner_in a.live.machine 0 ≡ None
calm-idle {units} {a} calm goes =
    let known : is_over calm.state.run ≡ false = ap is_over (sym calm.is.ground.run) ∙ goes in
    none-by (owner_in a.live.machine 0) (sym (live-is units a.live.machine calm.state.tasks 0 calm.is.activities) ∙ calm.quiet known)

-- ---- parts

any-plan : {I J : WorldState → Type 0} {k : Plan → Script} → ((x : Plan) → walk.Leads I J (k x)) → walk.Leads I J (by_plan k)
any-plan p = record { to = λ s a. (p s.plan).to s a }

any-run : {I J : WorldState → Type 0} {k : RunState → Script} → ((x : RunState) → walk.Leads I J (k x)) → walk.Leads I J (by_run k)
any-run p = record { to = λ s a. (p s.run).to s a }

any-history : {I J : WorldState → Type 0} {k : History → Script} → ((x : History) → walk.Leads I J (k x)) → walk.Leads I J (by_history k)
any-history p = record { to = λ s a. (p s.history).to s a }

any-tasks : {I J : WorldState → Type 0} {k : Tasks → Script} → ((x : Tasks) → walk.Leads I J (k x)) → walk.Leads I J (by_tasks k)
any-tasks p = record { to = λ s a. (p s.tasks).to s a }

any-memories : {I J : WorldState → Type 0} {k : List (List ℕ) → Script} → ((x : List (List ℕ)) → walk.Leads I J (k x)) → walk.Leads I J (by_memories k)
any-memories p = record { to = λ s a. (p s.memories).to s a }

any-devices : {I J : WorldState → Type 0} {k : Scripted → Script} → ((x : Scripted) → walk.Leads I J (k x)) → walk.Leads I J (by_devices k)
any-devices p = record { to = λ s a. (p s.devices).to s a }

again : {f : Script} (n : ℕ) (test : WorldState → Bool) → Quiets f → Quiets (while_at_most n test f)
again n test p = walk.leads-while n test (walk.leads-from (λ s a. a.0) p)

quiets-run : (change : RunState → RunState) → ((run : RunState) → is_over (change run) ≡ false → is_over run ≡ false) → Quiets (on_run change)
quiets-run change over = record { to = λ s quiet e. quiet (over s.run e) }

quiets-tasks : (change : Tasks → Tasks) → ((tasks : Tasks) → is_live tasks 0 ≡ false → is_live (change tasks) 0 ≡ false) → Quiets (on_tasks change)
quiets-tasks change idle = record { to = λ s quiet e. idle s.tasks (quiet e) }

quiets-say : (x : Item) → Quiets (say x)
quiets-say x = record { to = λ s quiet. quiet }

quiets-updates : (owner : ℕ) (u : Update) → Quiets (updates owner u)
quiets-updates owner u = record { to = λ s quiet. quiet }

quiets-updates_if : (owner : ℕ) (u : Option Update) → Quiets (updates_if owner u)
quiets-updates_if owner None = walk.leads-nothing
quiets-updates_if owner (Some u) = quiets-updates owner u

-- what begins on another task
other-task : (tasks : Tasks) (t : ℕ) (x : Option Running) → is_live tasks 0 ≡ false → is_live (with_activity (suc t) x tasks) 0 ≡ false
other-task [] t x idle = idle
other-task (y ∷ ys) t x idle = idle

-- an activity is taken away
still-idle : (owner : ℕ) (tasks : Tasks) → is_live tasks 0 ≡ false → is_live (without_activities owner tasks) 0 ≡ false
still-idle owner [] idle = idle
still-idle owner (None ∷ ys) idle = refl
still-idle owner (Some y ∷ ys) idle = absurd (true≢false idle)

quiets-other : (task : ℕ) (x : Tasks → Option Running) → 1 ≤ task → Quiets (on_tasks (λ tasks. with_activity task (x tasks) tasks))
quiets-other zero x some = absurd (omega arith)
quiets-other (suc t) x some = quiets-tasks (λ tasks. with_activity (suc t) (x tasks) tasks) (λ tasks idle. other-task tasks t (x tasks) idle)

-- ---- failures

pub quiets-takes_back : (owner : ℕ) (stands : RunState → RunState) → ((run : RunState) → is_over (stands run) ≡ false → is_over run ≡ false)
    → Quiets (takes_back owner stands)
quiets-takes_back owner stands over = keep-takes_back owner stands (record { to = λ s quiet. quiet })
    (quiets-tasks (without_activities owner) (still-idle owner)) (record { to = λ s quiet. quiet }) (quiets-run stands over)
    (λ items none. record { to = λ s quiet. quiet })

pub quiets-fails : (who : Who) (kind : FailKind) (line : ℕ) → Quiets (fails who kind line)
unfolding fails
quiets-fails who kind line = walk.leads-then (quiets-say (item.Failed who kind line)) (quiets-takes_back who.owner (driver_fails who.owner) (λ run e. e))

over-astray : (run : RunState) → is_over (goes_astray run) ≡ false → is_over run ≡ false
over-astray run e = elim run.is_stopped as (λ b. b || true ≡ false → b || run.is_astray ≡ false)
    [ true ↦ λ x. absurd (true≢false x) | false ↦ λ x. absurd (true≢false x) ] e

pub quiets-strays : (who : Who) (line : ℕ) → Quiets (strays who line)
unfolding strays
quiets-strays who line = walk.leads-then (quiets-say (item.Wild who line)) (quiets-run goes_astray over-astray)

-- ---- a step of another task

quiets-told : (who : Who) (line : ℕ) (u : Option Update) (port : Option ℕ) (out : CallOut) → 1 ≤ who.task → Quiets (told who line u port out)
quiets-told who line u port (Reply n) some =
    walk.leads-then (quiets-updates_if who.owner u) (walk.leads-then (record { to = λ s quiet. quiet }) (quiets-other who.task _ some))
quiets-told who line u port (Pointer p) some = walk.leads-then (quiets-updates_if who.owner u) (quiets-other who.task _ some)
quiets-told who line u port (Said saying) some = walk.leads-then (quiets-say _) (quiets-other who.task _ some)
quiets-told who line u port (Blocked lock) some = walk.leads-then (quiets-say _) (quiets-run waits_for_lock (λ run e. e))
quiets-told who line u port (Fail kind) some = quiets-fails who kind line
quiets-told who line u port Wild some = quiets-strays who line

quiets-told_as : (who : Who) (line : ℕ) (port : Option ℕ) (x : Served) → 1 ≤ who.task → Quiets (told_as who line port x)
quiets-told_as who line port x some = quiets-told who line x.update port x.out some

quiets-ends : (who : Who) (line : ℕ) (result : Option ℤ) (left : Option FailKind) → 1 ≤ who.task → Quiets (ends_by who line result left)
quiets-ends who line result (Some kind) some = quiets-fails who kind line
quiets-ends who line result None some = walk.leads-then (quiets-other who.task (λ tasks. None) some) (quiets-say _)

quiets-comes_to : (who : Who) (line : ℕ) (next : Outcome Next) → 1 ≤ who.task → Quiets (comes_to who line next)
unfolding asks
quiets-comes_to who line (Ok (Went frames m)) some = walk.leads-then (quiets-other who.task _ some) (record { to = λ s quiet. quiet })
quiets-comes_to who line (Ok (Wants frames call)) some = any-plan (λ plan. any-history (λ h. any-memories (λ m. any-devices (λ d.
    quiets-told_as who line (port_taken h who call) (served plan.share h (memory_of h m who.owner) d who call) some))))
quiets-comes_to who line (Ok (Ended result)) some = any-history (λ h. quiets-ends who line result (left_held h who) some)
quiets-comes_to who line (Err (StopFailed at kind)) some = quiets-fails who kind at
quiets-comes_to who line (Err StopWild) some = quiets-strays who line

quiets-acts_as : (plan : Plan) (h : History) (m : List (List ℕ)) (task : ℕ) (a : Option Running) → 1 ≤ task → Quiets (acts_as plan h m task a)
quiets-acts_as plan h m task None some = walk.leads-nothing
quiets-acts_as plan h m task (Some r) some =
    quiets-comes_to (who_in task r) (tree.line r.frames) (tree.step (unit_of plan r.owner) r.frames (memory_of h m r.owner)) some

over-stopped : (run : RunState) → is_over (stopped run) ≡ false → is_over run ≡ false
over-stopped run e = absurd (true≢false e)

pub quiets-step : (task : ℕ) → 1 ≤ task → Quiets (step task)
unfolding step acts
quiets-step task some = any-run (λ x. walk.leads-given (is_spent x) (λ e. quiets-run stopped over-stopped)
    (λ e. walk.leads-then (quiets-run one_taken (λ run e. e)) (any-plan (λ plan. any-history (λ h. any-memories (λ m. any-tasks (λ t.
    quiets-acts_as plan h m task (activity_of t task) some)))))))

-- ---- handlers

-- as many turns as there are steps left, and one more, come to an end
turns-out : (n task : ℕ) (s : WorldState) → s.run.left < n → goes_on task (turns n (goes_on task) (does (step task)) s) ≡ false
turns-out zero task s below = absurd (omega arith)
turns-out (suc n) task s below =
    elim (goes_on task s) as (λ b. goes_on task s ≡ b →
    goes_on task (elim b as (λ x. WorldState) [ true ↦ turns n (goes_on task) (does (step task)) (does (step task) s) | false ↦ s ]) ≡ false)
    [ true ↦ λ e. after (λ w below. turns-out n task w below) (is_spent s.run) refl | false ↦ λ e. e ] refl
  where
    after : ((w : WorldState) → w.run.left < n → goes_on task (turns n (goes_on task) (does (step task)) w) ≡ false) → (b : Bool) → is_spent s.run ≡ b → goes_on task (turns n (goes_on task) (does (step task)) (does (step task) s)) ≡ false
    after more true spent =
        let there : does (step task) s ≡ record s { run = stopped s.run } = step-spent task s spent in
        subst (λ w. goes_on task (turns n (goes_on task) (does (step task)) w) ≡ false) (sym there)
        (ap (goes_on task) (walk.turns-end n (goes_on task) (does (step task)) (record s { run = stopped s.run }) refl))
    after more false left =
        let fewer : (does (step task) s).run.left ≡ s.run.left - 1 = step-counts task s left in
        let some : s.run.left ≢ 0 = grind (arith, nat_tests) in
        more (does (step task) s) (omega arith)

quiet-by : (over live : Bool) → not over && live ≡ false → over ≡ false → live ≡ false
quiet-by true live e over = absurd (true≢false over)
quiet-by false live e over = e

pub quiet-handled : {I : WorldState → Type 0} → walk.Leads I IsQuiet (runs_to_end 0)
unfolding runs_to_end
quiet-handled = record {
  to = λ s a. quiet-by (is_over (does (runs_to_end 0) s).run) (is_live (does (runs_to_end 0) s).tasks 0)
      (turns-out (s.run.left + 1) 0 s (omega arith));
}

pub quiets-handles : (owner function : ℕ) (argument : ℤ) → Quiets (handles owner function argument)
unfolding handles
quiets-handles owner function argument = walk.leads-then {B = λ s. Unit {0}} (any-plan (λ plan. record { to = λ s a. tt })) quiet-handled

pub quiets-unless_over : (f : Script) → Quiets f → Quiets (unless_over f)
unfolding unless_over
quiets-unless_over f p = any-run (λ x. walk.leads-given (is_over x) (λ e. walk.leads-nothing) (λ e. p))

-- ---- delivery

pub quiets-serves : (line : ℕ) (holder : Holder) → Quiets (serves line holder)
unfolding serves
quiets-serves line holder = walk.leads-then (quiets-say _) (quiets-handles holder.owner holder.handler _)

pub quiets-serves_each : (line : ℕ) (holders : List Holder) → Quiets (serves_each line holders)
quiets-serves_each line [] = walk.leads-nothing
quiets-serves_each line (x ∷ xs) = walk.leads-then (quiets-unless_over (serves line x) (quiets-serves line x)) (quiets-serves_each line xs)

pub quiets-serves_all : (line : ℕ) (holders : List Holder) → Quiets (serves_all line holders)
quiets-serves_all line [] = quiets-say _
quiets-serves_all line (x ∷ xs) = quiets-serves_each line (x ∷ xs)

pub quiets-lines : (line : ℕ) (waits : Bool) → Quiets (on_run (with_waiting line waits))
quiets-lines line waits = quiets-run (with_waiting line waits) (λ run e. e)

pub quiets-delivers : (line : ℕ) → Quiets (delivers line)
unfolding delivers
quiets-delivers line = walk.leads-then (quiets-lines line false) (any-history (λ h. quiets-serves_all line (holders_of h (pos line))))

pub quiets-delivers_least : Quiets delivers_least
unfolding delivers_least
quiets-delivers_least = any-run (λ x. quiets-delivers (least_waiting x))

pub quiets-deliver : Quiets deliver
unfolding deliver
quiets-deliver = again 64 can_deliver quiets-delivers_least

pub quiets-irq : (line : ℕ) → Quiets (irq line)
unfolding irq
quiets-irq line = walk.leads-then (quiets-lines line true) (walk.leads-then quiets-deliver
    (any-run (λ x. walk.leads-given (still_waits line x) (λ e. quiets-say _) (λ e. walk.leads-nothing))))
