-- What every event keeps: a fact about worlds that each single change keeps is kept by all events, and so by a whole run.
--
-- The changes are listed as the layers of an event use them: `Acting` has those of a statement, `Stepping` those of a step, `Happening`
-- all. The
-- walk through the definitions is made here once; a law gives its fact and these records.
-- Here: Acting, Stepping, Happening; keep-acts, keep-step, keep-delivers, keep-deliver, keep-event, keep-events, keep-whole
use Rattle.std.proofs.Common.{◌≡◌, ℕ, zero, suc, ◌+◌, Bool, true, false, List, [], ◌∷◌, map, length, ℤ, Option, Some, None, Ok, Err, refl}
use Rattle.std.specs.List.{list_any}
use Rattle.std.proofs.lemmas.List.{length-set}
use Rattle.sd_base.specs.declared.actors.Who.{Who}
use Rattle.sd_base.specs.declared.kinds.FailKind.{FailKind}
use Rattle.sd_base.specs.declared.history.Update.{Update}
use Rattle.sd_base.specs.History.{History, live_of}
use Rattle.claim_table.specs.declared.claims.Holder.{Holder}
use Rattle.timer_table.specs.declared.fired.Fired.{Fired}
use Rattle.share_table.specs.declared.queue.Work.{Work}
use Rattle.device_model.specs.Scripted.{Scripted}
use Rattle.kernel_tables.specs.declared.row.Row.{Row}
use Rattle.kernel_tables.specs.TableRows.{tables_of}
use Rattle.update_tracker.specs.declared.undo.Undo.{Undo}
use Rattle.update_tracker.specs.NetPart.{net_items}
use Rattle.checked_tree.specs.declared.stops.Stop.TheVariants.{Failed as StopFailed, Wild as StopWild}
use Rattle.checked_tree.specs.declared.kernel.KernelCall.{KernelCall}
use Rattle.checked_tree.specs.declared.units.ImageBlock.{ImageBlock}
use Rattle.checked_tree.specs.Outcome.{Outcome}
use Rattle.checked_tree.specs.Step as tree
use Rattle.checked_tree.specs.Step.{Activity, Next, Went, Wants, Ended}
use Rattle.byte_memory.specs.Tested.{Memory}
use Rattle.wrappers.specs.declared.call_out.CallOut.{CallOut}
use Rattle.wrappers.specs.declared.call_out.CallOut.TheVariants.{Reply, Pointer, Said, Blocked, Fail, Wild}
use Rattle.wrappers.specs.declared.call_out.Saying.{Saying}
use Rattle.wrappers.specs.declared.call_out.Saying.TheVariants.{Print, Text, Out}
use Rattle.wrappers.specs.Served.{Served}
use Rattle.wrappers.specs.Rows.{served, port_taken}
use Rattle.scenario.specs.declared.event.Event.{Event}
use Rattle.scenario.specs.declared.event.Event.TheVariants as event_of
use Rattle.scenario.specs.declared.event.KernelEvent.{KernelEvent}
use Rattle.run_report.specs.declared.item.Item.{Item}
use Rattle.run_report.specs.declared.item.Item.TheVariants as item
use Rattle.run_report.specs.declared.item.Obstacle.{Obstacle}
use Rattle.run_report.specs.declared.item.Order.{Order}
use Rattle.run_report.specs.Tables.{row_item, told_rows, table_items}
use Rattle.world_core.specs.declared.run_state.Standing.{Standing}
use Rattle.world_core.specs.declared.run_state.Standing.TheVariants.{Absent, Loaded, Failed}
use Rattle.world_core.specs.declared.run_state.RunState.{RunState}
use Rattle.world_core.specs.WorldState.{WorldState, Plan, Running, Tasks, unit_of, memory_of, with_owner, with_memory, activity_of, who_in, is_over, is_spent, is_live, has_activity, driver_of, empty_arena, without_activities}
use Rattle.world_core.specs.Script.{Script, say, says, updates, leaves_out, on_run, on_tasks, on_memories, on_devices, by_plan, by_run, by_history, by_tasks, by_memories, by_devices, while_at_most, updates_if, unless_over}
use Rattle.world_core.specs.Showing.{names_of, show}
use Rattle.world_core.specs.Failing.{undone_item, undo_items, takes_back, fails, strays}
use Rattle.world_core.specs.Calling.{said_item, waits_for_lock, told, told_as, asks}
use Rattle.world_core.specs.Stepping.{done_item, left_held, ends_by, goes_on_with, comes_to, acts_as, acts, stopped, one_taken, step, goes_on, runs_to_end}
use Rattle.world_core.specs.Handling.{begun, handles}
use Rattle.world_core.specs.Delivering.{with_waiting, serves, serves_each, serves_all, delivers, delivers_least, least_waiting, deliver, can_deliver, irq, still_waits}
use Rattle.world_core.specs.Loading.{unless_declined, grants_image, begins_init, loads, init_of, load, load_obstacle, driver_loaded, restart, restart_obstacle, driver_restarted, unload, unload_obstacle, driver_unloaded, calls, call_obstacle, call, function_named, fits_values, image_grant}
use Rattle.world_core.specs.Tasks.{not_blocked, may_go_on, round, rounds, run, finish}
use Rattle.world_core.specs.Clock.{due_by, fires, fires_if, fires_first, fires_all, has_due, ticks_to, tick}
use Rattle.world_core.specs.Inputs.{works, works_front, works_one, has_work, work, answer, kernel, kernel_update}
use Rattle.share_table.specs.Table.{queue_of}
use Rattle.world_core.specs.Restarting.{one_restart_used, restarts_driver, least_due, restarts_least, restarts_left, has_due_driver, restarts}
use Rattle.world_core.specs.Events.{takes, event, events, is_failure, end_item, ends, whole}
use Rattle.world_core.proofs.Leading.{Leads, leads-nothing, leads-then, leads-given, leads-from, leads-while}

-- ---- what has to keep the fact

-- the changes of a statement. Tasks and memories are as many afterwards as before
pub record Acting (I : WorldState → Type 0) : Type 0 where
  pub saying : (x : Item) → is_failure x ≡ false → Leads I I (say x)
  pub listing : (xs : List Item) → list_any is_failure xs ≡ false → Leads I I (says xs)
  pub updating : (owner : ℕ) (u : Update) → Leads I I (updates owner u)
  pub leaving : (owner : ℕ) → Leads I I (leaves_out owner)
  pub tasks : (change : Tasks → Tasks) → ((t : Tasks) → length (change t) ≡ length t) → Leads I I (on_tasks change)
  pub memories : (change : List (List ℕ) → List (List ℕ)) → ((m : List (List ℕ)) → length (change m) ≡ length m) →
      Leads I I (on_memories change)
  pub devices : (change : Scripted → Scripted) → Leads I I (on_devices change)
  pub failing : (who : Who) (kind : FailKind) (line : ℕ) → Leads I I (fails who kind line)
  pub astray : (who : Who) (line : ℕ) → Leads I I (strays who line)
  pub blocked : Leads I I (on_run waits_for_lock)

-- those of a step
pub record Stepping (I : WorldState → Type 0) : Type 0 where
  pub acting : Acting I
  pub stopping : Leads I I (on_run stopped)
  pub taking : Leads I I (on_run one_taken)

-- those of all events
pub record Happening (I : WorldState → Type 0) : Type 0 where
  pub stepping : Stepping I
  pub unblocked : Leads I I (on_run not_blocked)
  pub raised : (line : ℕ) → Leads I I (on_run (with_waiting line true))
  pub delivering : (line : ℕ) → Leads I I (delivers line)
  pub loaded : (driver task restarts : ℕ) → Leads I I (on_run (driver_loaded driver task restarts))
  pub restarted : (driver : ℕ) → Leads I I (on_run (driver_restarted driver))
  pub unloading : (driver : ℕ) → Leads I I (takes_back driver (driver_unloaded driver))
  pub restart_used : (driver : ℕ) → Leads I I (on_run (one_restart_used driver))

-- ---- a script that is read from a part of the world keeps what it keeps however that part is

any-plan : {I : WorldState → Type 0} {k : Plan → Script} → ((x : Plan) → Leads I I (k x)) → Leads I I (by_plan k)
any-plan p = record { to = λ s a. (p s.plan).to s a }

any-run : {I : WorldState → Type 0} {k : RunState → Script} → ((x : RunState) → Leads I I (k x)) → Leads I I (by_run k)
any-run p = record { to = λ s a. (p s.run).to s a }

any-history : {I : WorldState → Type 0} {k : History → Script} → ((x : History) → Leads I I (k x)) → Leads I I (by_history k)
any-history p = record { to = λ s a. (p s.history).to s a }

any-tasks : {I : WorldState → Type 0} {k : Tasks → Script} → ((x : Tasks) → Leads I I (k x)) → Leads I I (by_tasks k)
any-tasks p = record { to = λ s a. (p s.tasks).to s a }

any-memories : {I : WorldState → Type 0} {k : List (List ℕ) → Script} → ((x : List (List ℕ)) → Leads I I (k x)) → Leads I I (by_memories k)
any-memories p = record { to = λ s a. (p s.memories).to s a }

any-devices : {I : WorldState → Type 0} {k : Scripted → Script} → ((x : Scripted) → Leads I I (k x)) → Leads I I (by_devices k)
any-devices p = record { to = λ s a. (p s.devices).to s a }

again : {I : WorldState → Type 0} {f : Script} (n : ℕ) (test : WorldState → Bool) → Leads I I f → Leads I I (while_at_most n test f)
again n test p = leads-while n test (leads-from (λ s a. a.0) p)

-- ---- what is printed beside failures

rows-quiet : (names : ℕ → ℕ → List ℕ) (rows : List Row) → list_any is_failure (map (row_item names) rows) ≡ false
rows-quiet names [] = refl
rows-quiet names (r ∷ rs) = rows-quiet names rs

pub tables-quiet : (names : ℕ → ℕ → List ℕ) (rows : List Row) → list_any is_failure (table_items names rows) ≡ false
tables-quiet names rows = rows-quiet names (told_rows rows)

items-quiet : (names : ℕ → ℕ → List ℕ) (owner : ℕ) (us : List Undo) →
    list_any is_failure (map (λ u. item.Undone owner (undone_item names owner u)) us) ≡ false
items-quiet names owner [] = refl
items-quiet names owner (u ∷ us) = items-quiet names owner us

pub undone-quiet : (names : ℕ → ℕ → List ℕ) (owner : ℕ) (h : History) → list_any is_failure (undo_items names owner h) ≡ false
unfolding undo_items
undone-quiet names owner h = items-quiet names owner (net_items owner (live_of h))

said-quiet : (who : Who) (saying : Saying) → is_failure (said_item who saying) ≡ false
said-quiet who (Print v) = refl
said-quiet who (Text text) = refl
said-quiet who (Out port v) = refl

done-quiet : (who : Who) (result : Option ℤ) → is_failure (done_item who result) ≡ false
done-quiet who None = refl
done-quiet who (Some v) = refl

pub length-with_owner : {A : Type 0} (xs : List A) (owner : ℕ) (x : A) → length (with_owner xs owner x) ≡ length xs
length-with_owner xs zero x = refl
length-with_owner xs (suc k) x = length-set xs k x

-- ---- a statement

keep-updates_if : {I : WorldState → Type 0} → Acting I → (owner : ℕ) (u : Option Update) → Leads I I (updates_if owner u)
keep-updates_if K owner None = leads-nothing
keep-updates_if K owner (Some u) = K.updating owner u

-- what is printed of the tables
abbrev Lists : (WorldState → Type 0) → Type 0
Lists I = (xs : List Item) → list_any is_failure xs ≡ false → Leads I I (says xs)

shows : {I : WorldState → Type 0} → Lists I → Leads I I show
unfolding show
shows lists = any-plan (λ plan. any-history (λ h. lists _ (tables-quiet (names_of plan) (tables_of h))))

keep-show : {I : WorldState → Type 0} → Acting I → Leads I I show
keep-show K = shows K.listing

-- to take a driver back keeps what its parts keep
pub keep-takes_back : {I : WorldState → Type 0} (owner : ℕ) (stands : RunState → RunState) →
    Leads I I (leaves_out owner) → Leads I I (on_tasks (without_activities owner)) →
    Leads I I (on_memories (with_memory owner empty_arena)) →
    Leads I I (on_run stands) → Lists I → Leads I I (takes_back owner stands)
unfolding takes_back
keep-takes_back owner stands left tasks memories stand lists = any-plan (λ plan. any-history (λ h.
    leads-then left (leads-then tasks (leads-then memories (leads-then stand (leads-then (lists _ (undone-quiet (names_of plan) owner h))
    (shows lists)))))))

keep-told : {I : WorldState → Type 0} → Acting I → (who : Who) (line : ℕ) (u : Option Update) (port : Option ℕ) (out : CallOut) →
    Leads I I (told who line u port out)
keep-told K who line u port (Reply n) =
    leads-then (keep-updates_if K who.owner u) (leads-then (K.devices _) (K.tasks _ (λ t. length-set t who.task _)))
keep-told K who line u port (Pointer p) = leads-then (keep-updates_if K who.owner u) (K.tasks _ (λ t. length-set t who.task _))
keep-told K who line u port (Said saying) =
    leads-then (K.saying (said_item who saying) (said-quiet who saying)) (K.tasks _ (λ t. length-set t who.task _))
keep-told K who line u port (Blocked lock) = leads-then (K.saying (item.Blocked who lock) refl) K.blocked
keep-told K who line u port (Fail kind) = K.failing who kind line
keep-told K who line u port Wild = K.astray who line

keep-told_as : {I : WorldState → Type 0} → Acting I → (who : Who) (line : ℕ) (port : Option ℕ) (x : Served) →
    Leads I I (told_as who line port x)
keep-told_as K who line port x = keep-told K who line x.update port x.out

keep-asks : {I : WorldState → Type 0} → Acting I → (who : Who) (line : ℕ) (call : KernelCall) → Leads I I (asks who line call)
unfolding asks
keep-asks K who line call = any-plan (λ plan. any-history (λ h. any-memories (λ m. any-devices (λ d.
    keep-told_as K who line (port_taken h who call) (served plan.share h (memory_of h m who.owner) d who call)))))

keep-goes_on : {I : WorldState → Type 0} → Acting I → (who : Who) (frames : Activity) (m : Memory) → Leads I I (goes_on_with who frames m)
keep-goes_on K who frames m = leads-then (K.tasks _ (λ t. length-set t who.task _)) (K.memories _
    (λ ms. length-with_owner ms who.owner m.bytes))

keep-ends : {I : WorldState → Type 0} → Acting I → (who : Who) (line : ℕ) (result : Option ℤ) (left : Option FailKind) →
    Leads I I (ends_by who line result left)
keep-ends K who line result (Some kind) = K.failing who kind line
keep-ends K who line result None =
    leads-then (K.tasks _ (λ t. length-set t who.task None)) (K.saying (done_item who result) (done-quiet who result))

keep-comes_to : {I : WorldState → Type 0} → Acting I → (who : Who) (line : ℕ) (next : Outcome Next) → Leads I I (comes_to who line next)
keep-comes_to K who line (Ok (Went frames m)) = keep-goes_on K who frames m
keep-comes_to K who line (Ok (Wants frames call)) = keep-asks K who line call
keep-comes_to K who line (Ok (Ended result)) = any-history (λ h. keep-ends K who line result (left_held h who))
keep-comes_to K who line (Err (StopFailed at kind)) = K.failing who kind at
keep-comes_to K who line (Err StopWild) = K.astray who line

keep-acts_as : {I : WorldState → Type 0} → Acting I → (plan : Plan) (h : History) (m : List (List ℕ)) (task : ℕ) (a : Option Running) →
    Leads I I (acts_as plan h m task a)
keep-acts_as K plan h m task None = leads-nothing
keep-acts_as K plan h m task (Some r) =
    keep-comes_to K (who_in task r) (tree.line r.frames) (tree.step (unit_of plan r.owner) r.frames (memory_of h m r.owner))

pub keep-acts : {I : WorldState → Type 0} → Acting I → (task : ℕ) → Leads I I (acts task)
unfolding acts
keep-acts K task = any-plan (λ plan. any-history (λ h. any-memories (λ m. any-tasks (λ t. keep-acts_as K plan h m task
    (activity_of t task)))))

-- ---- a step, and a handler

pub keep-step : {I : WorldState → Type 0} → Stepping I → (task : ℕ) → Leads I I (step task)
unfolding step
keep-step K task = any-run (λ x. leads-given (is_spent x) (λ e. K.stopping) (λ e. leads-then K.taking (keep-acts K.acting task)))

pub keep-runs_to_end : {I : WorldState → Type 0} → Stepping I → (task : ℕ) → Leads I I (runs_to_end task)
unfolding runs_to_end
keep-runs_to_end K task = any-run (λ x. again (x.left + 1) (goes_on task) (keep-step K task))

pub keep-handles : {I : WorldState → Type 0} → Stepping I → (owner function : ℕ) (argument : ℤ) →
    Leads I I (handles owner function argument)
unfolding handles
keep-handles K owner function argument =
    leads-then (any-plan (λ plan. K.acting.tasks (begun plan 0 owner function (argument ∷ [])) (λ t. length-set t 0 _)))
    (keep-runs_to_end K 0)

pub keep-unless_over : {I : WorldState → Type 0} (f : Script) → Leads I I f → Leads I I (unless_over f)
unfolding unless_over
keep-unless_over f p = any-run (λ x. leads-given (is_over x) (λ e. leads-nothing) (λ e. p))

-- ---- delivery

keep-serves : {I : WorldState → Type 0} → Stepping I → (line : ℕ) (holder : Holder) → Leads I I (serves line holder)
unfolding serves
keep-serves K line holder = leads-then (K.acting.saying (item.Irq line holder.owner) refl) (keep-handles K holder.owner holder.handler _)

pub keep-serves_each : {I : WorldState → Type 0} → Stepping I → (line : ℕ) (holders : List Holder) → Leads I I (serves_each line holders)
keep-serves_each K line [] = leads-nothing
keep-serves_each K line (x ∷ xs) = leads-then (keep-unless_over (serves line x) (keep-serves K line x)) (keep-serves_each K line xs)

pub keep-serves_all : {I : WorldState → Type 0} → Stepping I → (line : ℕ) (holders : List Holder) → Leads I I (serves_all line holders)
keep-serves_all K line [] = K.acting.saying (item.IrqNobody line) refl
keep-serves_all K line (x ∷ xs) = keep-serves_each K line (x ∷ xs)

-- for a fact that is also kept where a line ceases to wait before it is served
pub keep-delivers : {I : WorldState → Type 0} → Stepping I → ((line : ℕ) → Leads I I (on_run (with_waiting line false))) → (line : ℕ) →
    Leads I I (delivers line)
unfolding delivers
keep-delivers K lowered line = leads-then (lowered line) (any-history (λ h. keep-serves_all K line _))

keep-delivers_least : {I : WorldState → Type 0} → Happening I → Leads I I delivers_least
unfolding delivers_least
keep-delivers_least K = any-run (λ x. K.delivering (least_waiting x))

pub keep-deliver : {I : WorldState → Type 0} → Happening I → Leads I I deliver
unfolding deliver
keep-deliver K = again 64 can_deliver (keep-delivers_least K)

keep-irq : {I : WorldState → Type 0} → Happening I → (line : ℕ) → Leads I I (irq line)
unfolding irq
keep-irq K line = leads-then (K.raised line) (leads-then (keep-deliver K)
    (any-run (λ x. leads-given (still_waits line x) (λ e. K.stepping.acting.saying (item.IrqWaits line) refl) (λ e. leads-nothing))))

-- ---- loads, restarts, unloads, calls

keep-declined : {I : WorldState → Type 0} → Acting I → (driver : ℕ) (what : Order) (why : Option Obstacle) (done : Script) →
    Leads I I done → Leads I I (unless_declined driver what why done)
keep-declined K driver what None done p = p
keep-declined K driver what (Some why) done p = K.saying (item.Declined driver what why) refl

keep-grants : {I : WorldState → Type 0} → Acting I → (driver : ℕ) (image : List ImageBlock) → Leads I I (grants_image driver image)
keep-grants K driver [] = leads-nothing
keep-grants K driver (b ∷ bs) = leads-then (K.updating driver (image_grant b)) (keep-grants K driver bs)

keep-init : {I : WorldState → Type 0} → Acting I → (plan : Plan) (driver task : ℕ) (f : Option ℕ) →
    Leads I I (begins_init plan driver task f)
keep-init K plan driver task None = leads-nothing
keep-init K plan driver task (Some f) = K.tasks (begun plan task driver f []) (λ t. length-set t task _)

keep-loads : {I : WorldState → Type 0} → Acting I → (plan : Plan) (driver task : ℕ) → Leads I I (loads plan driver task)
unfolding loads
keep-loads K plan driver task =
    leads-then (K.leaving driver) (leads-then (K.memories _ (λ ms. length-with_owner ms driver _))
    (leads-then (keep-grants K driver (unit_of plan driver).image) (keep-init K plan driver task (init_of (unit_of plan driver)))))

keep-load : {I : WorldState → Type 0} → Happening I → (driver task restarts : ℕ) → Leads I I (load driver task restarts)
unfolding load
keep-load K driver task restarts = any-plan (λ plan. any-run (λ x. any-tasks (λ t.
    keep-declined K.stepping.acting driver _ (load_obstacle (driver_of x driver).standing (init_of (unit_of plan driver))
    (is_live t task)) _
    (leads-then (K.loaded driver task restarts) (leads-then (keep-loads K.stepping.acting plan driver task) (K.stepping.acting.saying
    (item.Loaded driver) refl))))))

pub keep-restart : {I : WorldState → Type 0} → Happening I → (driver task : ℕ) → Leads I I (restart driver task)
unfolding restart
keep-restart K driver task = any-plan (λ plan. any-run (λ x. any-tasks (λ t.
    keep-declined K.stepping.acting driver _ (restart_obstacle (driver_of x driver).standing (is_live t task)) _
    (leads-then (K.restarted driver) (leads-then (keep-loads K.stepping.acting plan driver task) (K.stepping.acting.saying
    (item.Restarted driver) refl))))))

keep-unload : {I : WorldState → Type 0} → Happening I → (driver : ℕ) → Leads I I (unload driver)
unfolding unload
keep-unload K driver = any-run (λ x. any-tasks (λ t.
    keep-declined K.stepping.acting driver _ (unload_obstacle (driver_of x driver).standing (has_activity t driver)) _
    (leads-then (K.stepping.acting.saying (item.Unloaded driver) refl) (K.unloading driver))))

keep-calls : {I : WorldState → Type 0} → Acting I →
    (plan : Plan) (driver task : ℕ) (values : List ℤ) (standing : Standing) (f : Option ℕ) →
    Leads I I (calls plan driver task values standing f)
keep-calls K plan driver task values Failed f = K.saying _ refl
keep-calls K plan driver task values Absent f = leads-nothing
keep-calls K plan driver task values Loaded None = leads-nothing
keep-calls K plan driver task values Loaded (Some f) = K.tasks (begun plan task driver f values) (λ t. length-set t task _)

keep-call : {I : WorldState → Type 0} → Acting I → (driver task : ℕ) (name : List ℕ) (values : List ℤ) →
    Leads I I (call driver task name values)
unfolding call
keep-call K driver task name values = any-plan (λ plan. any-run (λ x. any-tasks (λ t.
    keep-declined K driver _
    (call_obstacle (driver_of x driver).standing (function_named name (unit_of plan driver)) (fits_values (unit_of plan driver)
    (function_named name (unit_of plan driver)) (length values)) (is_live t task)) _
    (keep-calls K plan driver task values (driver_of x driver).standing (function_named name (unit_of plan driver))))))

-- ---- tasks, clock, work, answers, the kernel

keep-round : {I : WorldState → Type 0} → Happening I → (task : ℕ) → Leads I I (round task)
unfolding round
keep-round K task = leads-then (keep-step K.stepping task) (keep-deliver K)

keep-rounds : {I : WorldState → Type 0} → Happening I → (task n : ℕ) → Leads I I (rounds task n)
unfolding rounds
keep-rounds K task n = leads-then K.unblocked (again n (may_go_on task) (keep-round K task))

keep-run : {I : WorldState → Type 0} → Happening I → (task n : ℕ) → Leads I I (run task n)
unfolding run
keep-run K task n = any-tasks (λ t. leads-given (is_live t task) (λ e. keep-rounds K task n) (λ e. K.stepping.acting.saying
    (item.Idle task) refl))

keep-finish : {I : WorldState → Type 0} → Happening I → (task : ℕ) → Leads I I (finish task)
unfolding finish
keep-finish K task = any-run (λ x. keep-run K task (x.left + 1))

keep-fires : {I : WorldState → Type 0} → Happening I → (t : Fired) → Leads I I (fires t)
unfolding fires
keep-fires K t =
    leads-then (K.stepping.acting.updating 0 _) (leads-then (K.stepping.acting.updating t.owner _)
    (leads-then (K.stepping.acting.saying (item.Timer t.owner t.id) refl) (leads-then (keep-handles K.stepping t.owner t.handler t.arg)
    (keep-deliver K))))

keep-fires_if : {I : WorldState → Type 0} → Happening I → (t : Option Fired) → Leads I I (fires_if t)
keep-fires_if K None = leads-nothing
keep-fires_if K (Some t) = keep-fires K t

keep-fires_first : {I : WorldState → Type 0} → Happening I → (target : ℕ) → Leads I I (fires_first target)
unfolding fires_first
keep-fires_first K target = any-history (λ h. keep-fires_if K (due_by target h))

keep-fires_all : {I : WorldState → Type 0} → Happening I → (target : ℕ) → Leads I I (fires_all target)
unfolding fires_all
keep-fires_all K target = any-run (λ x. again (x.left + 1) (has_due target) (keep-fires_first K target))

keep-ticks_to : {I : WorldState → Type 0} → Happening I → (target : ℕ) → Leads I I (ticks_to target)
unfolding ticks_to
keep-ticks_to K target = leads-then (keep-fires_all K target) (keep-unless_over _ (K.stepping.acting.updating 0 _))

keep-tick : {I : WorldState → Type 0} → Happening I → (n : ℕ) → Leads I I (tick n)
unfolding tick
keep-tick K n = any-history (λ h. leads-given _ (λ e. K.stepping.acting.saying item.TickRefused refl) (λ e. keep-ticks_to K _))

keep-works : {I : WorldState → Type 0} → Happening I → (w : Work) → Leads I I (works w)
unfolding works
keep-works K w =
    leads-then (K.stepping.acting.updating w.owner _) (leads-then (K.stepping.acting.saying (item.Work w.owner) refl)
    (leads-then (keep-handles K.stepping w.owner w.handler w.arg) (keep-deliver K)))

keep-works_front : {I : WorldState → Type 0} → Happening I → (ws : List Work) → Leads I I (works_front ws)
keep-works_front K [] = leads-nothing
keep-works_front K (w ∷ ws) = keep-works K w

keep-works_one : {I : WorldState → Type 0} → Happening I → Leads I I works_one
unfolding works_one
keep-works_one K = any-history (λ h. keep-works_front K (queue_of h))

keep-work : {I : WorldState → Type 0} → Happening I → (n : ℕ) → Leads I I (work n)
unfolding work
keep-work K n = again n has_work (keep-works_one K)

keep-answer : {I : WorldState → Type 0} → Acting I → (port first n : ℕ) → Leads I I (answer port first n)
unfolding answer
keep-answer K port first n = any-plan (λ plan. K.devices _)

keep-kernel : {I : WorldState → Type 0} → Acting I → (e : KernelEvent) → Leads I I (kernel e)
unfolding kernel
keep-kernel K e = any-plan (λ plan. any-history (λ h. leads-then (K.updating 0 (kernel_update e)) (K.saying _ refl)))

-- ---- all events

keep-restarts_driver : {I : WorldState → Type 0} → Happening I → (x : RunState) (driver : ℕ) → Leads I I (restarts_driver x driver)
keep-restarts_driver K x driver =
    leads-then (K.restart_used driver) (leads-then (keep-restart K driver (driver_of x driver).task) (keep-deliver K))

keep-restarts_least : {I : WorldState → Type 0} → Happening I → Leads I I restarts_least
unfolding restarts_least
keep-restarts_least K = any-run (λ x. keep-restarts_driver K x (least_due x))

keep-restarts : {I : WorldState → Type 0} → Happening I → Leads I I restarts
unfolding restarts
keep-restarts K = any-run (λ x. again (restarts_left x.drivers) has_due_driver (keep-restarts_least K))

keep-takes : {I : WorldState → Type 0} → Happening I → (e : Event) → Leads I I (takes e)
keep-takes K (event_of.Load driver task restarts) = keep-load K driver task restarts
keep-takes K (event_of.Restart driver task) = keep-restart K driver task
keep-takes K (event_of.Unload driver) = keep-unload K driver
keep-takes K (event_of.Call driver task name values n) = keep-call K.stepping.acting driver task name _
keep-takes K (event_of.Run task n) = keep-run K task n
keep-takes K (event_of.Finish task) = keep-finish K task
keep-takes K (event_of.Irq line) = keep-irq K line
keep-takes K (event_of.Tick n) = keep-tick K n
keep-takes K (event_of.Work n) = keep-work K n
keep-takes K (event_of.Answer port first n) = keep-answer K.stepping.acting port first n
keep-takes K (event_of.Kernel e) = keep-kernel K.stepping.acting e
keep-takes K event_of.Show = keep-show K.stepping.acting

pub keep-event : {I : WorldState → Type 0} → Happening I → (e : Event) → Leads I I (event e)
unfolding event
keep-event K e = keep-unless_over _ (leads-then (keep-takes K e) (leads-then (keep-deliver K) (keep-restarts K)))

pub keep-events : {I : WorldState → Type 0} → Happening I → (es : List Event) → Leads I I (events es)
keep-events K [] = leads-nothing
keep-events K (e ∷ es) = leads-then (keep-event K e) (keep-events K es)

end-quiet : (stopped : Bool) (taken : ℕ) → is_failure (end_item stopped taken) ≡ false
end-quiet true taken = refl
end-quiet false taken = refl

pub keep-whole : {I : WorldState → Type 0} → Happening I → (es : List Event) → Leads I I (whole es)
unfolding ends
keep-whole K es = leads-then (keep-events K es) (any-plan (λ plan. any-run (λ x. K.stepping.acting.saying _ (end-quiet x.is_stopped _))))
