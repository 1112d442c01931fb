-- The devices' room for answers: only an `answer` line takes some, and it takes as much as it gives answers.
-- Here: Rooms, room-takes, room-happens
use Rattle.std.proofs.Common.{◌≡◌, ℕ, zero, suc, ◌+◌, ◌≤◌, Bool, true, false, List, [], ◌∷◌, length, take, drop, ℤ, Option, None, Some, Ok, Err, refl, ◌∙◌, arith}
use Rattle.sd_base.specs.declared.actors.Who.{Who}
use Rattle.sd_base.specs.declared.kinds.FailKind.{FailKind}
use Rattle.sd_base.specs.declared.history.Update.{Update}
use Rattle.sd_base.specs.History.{History}
use Rattle.device_model.specs.Scripted.{Scripted, with_answer}
use Rattle.claim_table.specs.declared.claims.Holder.{Holder}
use Rattle.claim_table.specs.ClaimPart.{holders_of}
use Rattle.timer_table.specs.declared.fired.Fired.{Fired}
use Rattle.share_table.specs.declared.queue.Work.{Work}
use Rattle.share_table.specs.Table.{queue_of}
use Rattle.checked_tree.specs.declared.stops.Stop.TheVariants.{Failed as StopFailed, Wild as StopWild}
use Rattle.checked_tree.specs.declared.units.ImageBlock.{ImageBlock}
use Rattle.checked_tree.specs.Outcome.{Outcome}
use Rattle.checked_tree.specs.Step as tree
use Rattle.checked_tree.specs.Step.{Next, Went, Wants, Ended}
use Rattle.wrappers.specs.declared.call_out.CallOut.{CallOut}
use Rattle.wrappers.specs.declared.call_out.CallOut.TheVariants.{Reply, Pointer, Said, Blocked, Fail, Wild}
use Rattle.wrappers.specs.Served.{Served}
use Rattle.wrappers.specs.Rows.{served, port_taken, without_answer}
use Rattle.scenario.specs.declared.event.Event.{Event}
use Rattle.scenario.specs.declared.event.KernelEvent.{KernelEvent}
use Rattle.scenario.specs.declared.event.Event.TheVariants as event_of
use Rattle.run_report.specs.declared.item.Item.{Item}
use Rattle.run_report.specs.declared.item.Item.TheVariants as item
use Rattle.run_report.specs.declared.item.Obstacle.{Obstacle}
use Rattle.run_report.specs.declared.item.Order.{Order}
use Rattle.world_core.specs.declared.run_state.Standing.{Standing}
use Rattle.world_core.specs.declared.run_state.Standing.TheVariants.{Absent, Loaded, Failed}
use Rattle.world_core.specs.declared.run_state.RunState.{RunState}
use Rattle.world_core.specs.WorldState.{WorldState, Plan, Running, Tasks, activity_of, driver_of, is_live, is_over, is_spent, has_activity, unit_of, memory_of, who_in}
use Rattle.world_core.specs.Script.{Script, nothing, say, updates, updates_if, on_run, on_tasks, on_memories, by_plan, by_run, by_history, by_tasks, by_memories, by_devices, given, while_at_most, both, does, unless_over, ◌>>◌}
use Rattle.world_core.specs.Showing.{show}
use Rattle.world_core.specs.Failing.{takes_back, fails, strays}
use Rattle.world_core.specs.Calling.{asks, told, told_as}
use Rattle.world_core.specs.Stepping.{step, acts, acts_as, comes_to, ends_by, left_held, goes_on, runs_to_end}
use Rattle.world_core.specs.Handling.{handles}
use Rattle.world_core.specs.Delivering.{serves, serves_each, serves_all, delivers, delivers_least, least_waiting, can_deliver, deliver, irq, still_waits}
use Rattle.world_core.specs.Clock.{due_by, fires, fires_if, fires_first, fires_all, has_due, ticks_to, tick}
use Rattle.world_core.specs.Inputs.{works, works_front, works_one, has_work, work, answered, kernel}
use Rattle.world_core.specs.Tasks.{may_go_on, round, rounds, run, finish}
use Rattle.world_core.specs.Loading.{unless_declined, image_grant, grants_image, begins_init, loads, init_of, load, load_obstacle, restart, restart_obstacle, unload, unload_obstacle, driver_unloaded, calls, call_obstacle, fits_values, function_named, call}
use Rattle.world_core.specs.Restarting.{restarts_left, has_due_driver, least_due, restarts_driver, restarts_least, restarts}
use Rattle.world_core.proofs.Leading.{turns-keep}
use Rattle.world.specs.Happening.{takes_from, happens_from}
use Rattle.world.specs.Runs.{given_by}

-- a script leaves the room as it is
pub record Rooms (script : Script) : Type 0 where
  pub to : (s : WorldState) → (does script s).devices.room ≡ s.devices.room

-- ---- parts

then : {f g : Script} → Rooms f → Rooms g → Rooms (both f g)
then {f} p q = record { to = λ s. q.to (does f s) ∙ p.to s }

if : {f g : Script} (test : Bool) → Rooms f → Rooms g → Rooms (given test f g)
if true p q = record { to = λ s. p.to s }
if false p q = record { to = λ s. q.to s }

any-plan : {k : Plan → Script} → ((x : Plan) → Rooms (k x)) → Rooms (by_plan k)
any-plan p = record { to = λ s. (p s.plan).to s }

any-run : {k : RunState → Script} → ((x : RunState) → Rooms (k x)) → Rooms (by_run k)
any-run p = record { to = λ s. (p s.run).to s }

any-history : {k : History → Script} → ((x : History) → Rooms (k x)) → Rooms (by_history k)
any-history p = record { to = λ s. (p s.history).to s }

any-tasks : {k : Tasks → Script} → ((x : Tasks) → Rooms (k x)) → Rooms (by_tasks k)
any-tasks p = record { to = λ s. (p s.tasks).to s }

any-memories : {k : List (List ℕ) → Script} → ((x : List (List ℕ)) → Rooms (k x)) → Rooms (by_memories k)
any-memories p = record { to = λ s. (p s.memories).to s }

any-devices : {k : Scripted → Script} → ((x : Scripted) → Rooms (k x)) → Rooms (by_devices k)
any-devices p = record { to = λ s. (p s.devices).to s }

again : {f : Script} (n : ℕ) (test : WorldState → Bool) → Rooms f → Rooms (while_at_most n test f)
again {f} n test p = record { to = λ s. turns-keep {A = λ w. w.devices.room ≡ s.devices.room} n test (does f) (λ w a e. p.to w ∙ a) s refl }

unless : {f : Script} → Rooms f → Rooms (unless_over f)
unfolding unless_over
unless p = any-run (λ x. if (is_over x) (record { to = λ s. refl }) p)

none : Rooms nothing
none = record { to = λ s. refl }

says : (x : Item) → Rooms (say x)
says x = record { to = λ s. refl }

updating : (owner : ℕ) (u : Update) → Rooms (updates owner u)
updating owner u = record { to = λ s. refl }

updating_if : (owner : ℕ) (u : Option Update) → Rooms (updates_if owner u)
updating_if owner None = none
updating_if owner (Some u) = updating owner u

running : (change : RunState → RunState) → Rooms (on_run change)
running change = record { to = λ s. refl }

tasking : (change : Tasks → Tasks) → Rooms (on_tasks change)
tasking change = record { to = λ s. refl }

remembering : (change : List (List ℕ) → List (List ℕ)) → Rooms (on_memories change)
remembering change = record { to = λ s. refl }

takes_one : (port : Option ℕ) (d : Scripted) → (without_answer port d).room ≡ d.room
takes_one None d = refl
takes_one (Some port) d = refl

-- ---- failures, and a step

back : (owner : ℕ) (stands : RunState → RunState) → Rooms (takes_back owner stands)
unfolding takes_back show
back owner stands = record { to = λ s. refl }

failing : (who : Who) (kind : FailKind) (line : ℕ) → Rooms (fails who kind line)
unfolding fails
failing who kind line = then (says _) (back who.owner _)

straying : (who : Who) (line : ℕ) → Rooms (strays who line)
unfolding strays
straying who line = then (says _) (running _)

telling : (who : Who) (line : ℕ) (u : Option Update) (port : Option ℕ) (out : CallOut) → Rooms (told who line u port out)
telling who line u port (Reply n) = then (updating_if who.owner u) (then (record { to = λ s. takes_one port s.devices }) (tasking _))
telling who line u port (Pointer p) = then (updating_if who.owner u) (tasking _)
telling who line u port (Said saying) = then (says _) (tasking _)
telling who line u port (Blocked lock) = then (says _) (running _)
telling who line u port (Fail kind) = failing who kind line
telling who line u port Wild = straying who line

telling_as : (who : Who) (line : ℕ) (port : Option ℕ) (x : Served) → Rooms (told_as who line port x)
telling_as who line port x = telling who line x.update port x.out

ending : (who : Who) (line : ℕ) (result : Option ℤ) (left : Option FailKind) → Rooms (ends_by who line result left)
ending who line result (Some kind) = failing who kind line
ending who line result None = then (tasking _) (says _)

coming_to : (who : Who) (line : ℕ) (next : Outcome Next) → Rooms (comes_to who line next)
unfolding asks
coming_to who line (Ok (Went frames m)) = then (tasking _) (remembering _)
coming_to who line (Ok (Wants frames call)) = any-plan (λ plan. any-history (λ h. any-memories (λ m. any-devices (λ d.
    telling_as who line (port_taken h who call) (served plan.share h (memory_of h m who.owner) d who call)))))
coming_to who line (Ok (Ended result)) = any-history (λ h. ending who line result (left_held h who))
coming_to who line (Err (StopFailed at kind)) = failing who kind at
coming_to who line (Err StopWild) = straying who line

acting_as : (plan : Plan) (h : History) (m : List (List ℕ)) (task : ℕ) (a : Option Running) → Rooms (acts_as plan h m task a)
acting_as plan h m task None = none
acting_as plan h m task (Some r) =
    coming_to (who_in task r) (tree.line r.frames) (tree.step (unit_of plan r.owner) r.frames (memory_of h m r.owner))

stepping : (task : ℕ) → Rooms (step task)
unfolding step acts
stepping task = any-run (λ x. if (is_spent x) (running _)
    (then (running _) (any-plan (λ plan. any-history (λ h. any-memories (λ m. any-tasks (λ t. acting_as plan h m task (activity_of t task))))))))

-- ---- handlers, delivery

to_end : (task : ℕ) → Rooms (runs_to_end task)
unfolding runs_to_end
to_end task = any-run (λ x. again (x.left + 1) (goes_on task) (stepping task))

handling : (owner function : ℕ) (argument : ℤ) → Rooms (handles owner function argument)
unfolding handles
handling owner function argument = then (any-plan (λ plan. tasking _)) (to_end 0)

serving : (line : ℕ) (holder : Holder) → Rooms (serves line holder)
unfolding serves
serving line holder = then (says _) (handling holder.owner holder.handler _)

serving_each : (line : ℕ) (holders : List Holder) → Rooms (serves_each line holders)
serving_each line [] = none
serving_each line (x ∷ xs) = then (unless (serving line x)) (serving_each line xs)

serving_all : (line : ℕ) (holders : List Holder) → Rooms (serves_all line holders)
serving_all line [] = says _
serving_all line (x ∷ xs) = serving_each line (x ∷ xs)

delivering : (line : ℕ) → Rooms (delivers line)
unfolding delivers
delivering line = then (running _) (any-history (λ h. serving_all line (holders_of h _)))

pub room-deliver : Rooms deliver
unfolding deliver delivers_least
room-deliver = again 64 can_deliver (any-run (λ x. delivering (least_waiting x)))

raising : (line : ℕ) → Rooms (irq line)
unfolding irq
raising line = then (running _) (then room-deliver (any-run (λ x. if (still_waits line x) (says _) none)))

-- ---- the clock, work, tasks

firing : (t : Fired) → Rooms (fires t)
unfolding fires
firing t = then (updating 0 _) (then (updating t.owner _) (then (says _) (then (handling t.owner t.handler t.arg) room-deliver)))

firing_if : (t : Option Fired) → Rooms (fires_if t)
firing_if None = none
firing_if (Some t) = firing t

firing_all : (moment : ℕ) → Rooms (fires_all moment)
unfolding fires_all fires_first
firing_all moment = any-run (λ x. again (x.left + 1) (has_due moment) (any-history (λ h. firing_if (due_by moment h))))

ticking_to : (moment : ℕ) → Rooms (ticks_to moment)
unfolding ticks_to
ticking_to moment = then (firing_all moment) (unless (updating 0 _))

ticking : (n : ℕ) → Rooms (tick n)
unfolding tick
ticking n = any-history (λ h. if _ (says item.TickRefused) (ticking_to _))

working : (w : Work) → Rooms (works w)
unfolding works
working w = then (updating w.owner _) (then (says _) (then (handling w.owner w.handler w.arg) room-deliver))

working_front : (ws : List Work) → Rooms (works_front ws)
working_front [] = none
working_front (w ∷ ws) = working w

working_on : (n : ℕ) → Rooms (work n)
unfolding work works_one
working_on n = again n has_work (any-history (λ h. working_front (queue_of h)))

rounding : (task n : ℕ) → Rooms (rounds task n)
unfolding rounds round
rounding task n = then (running _) (again n (may_go_on task) (then (stepping task) room-deliver))

running_task : (task n : ℕ) → Rooms (run task n)
unfolding run
running_task task n = any-tasks (λ t. if (is_live t task) (rounding task n) (says (item.Idle task)))

finishing : (task : ℕ) → Rooms (finish task)
unfolding finish
finishing task = any-run (λ x. running_task task (x.left + 1))

-- ---- orders

declining : (driver : ℕ) (what : Order) (why : Option Obstacle) (done : Script) → Rooms done → Rooms (unless_declined driver what why done)
declining driver what None done p = p
declining driver what (Some why) done p = says (item.Declined driver what why)

granting : (driver : ℕ) (image : List ImageBlock) → Rooms (grants_image driver image)
granting driver [] = none
granting driver (b ∷ bs) = then (updating driver (image_grant b)) (granting driver bs)

beginning : (plan : Plan) (driver task : ℕ) (f : Option ℕ) → Rooms (begins_init plan driver task f)
beginning plan driver task None = none
beginning plan driver task (Some f) = tasking _

loading : (plan : Plan) (driver task : ℕ) → Rooms (loads plan driver task)
unfolding loads
loading plan driver task = then (record { to = λ s. refl }) (then (record { to = λ s. refl })
    (then (granting driver (unit_of plan driver).image) (beginning plan driver task (init_of (unit_of plan driver)))))

loading_on : (driver task n : ℕ) → Rooms (load driver task n)
unfolding load
loading_on driver task n = any-plan (λ plan. any-run (λ x. any-tasks (λ t.
    declining driver _ (load_obstacle (driver_of x driver).standing (init_of (unit_of plan driver)) (is_live t task)) _
    (then (running _) (then (loading plan driver task) (says (item.Loaded driver)))))))

restarting : (driver task : ℕ) → Rooms (restart driver task)
unfolding restart
restarting driver task = any-plan (λ plan. any-run (λ x. any-tasks (λ t.
    declining driver _ (restart_obstacle (driver_of x driver).standing (is_live t task)) _
    (then (running _) (then (loading plan driver task) (says (item.Restarted driver)))))))

unloading : (driver : ℕ) → Rooms (unload driver)
unfolding unload
unloading driver = any-run (λ x. any-tasks (λ t.
    declining driver _ (unload_obstacle (driver_of x driver).standing (has_activity t driver)) _
    (then (says (item.Unloaded driver)) (back driver (driver_unloaded driver)))))

calling_by : (plan : Plan) (driver task : ℕ) (values : List ℤ) (standing : Standing) (f : Option ℕ) → Rooms (calls plan driver task values standing f)
calling_by plan driver task values Failed f = says _
calling_by plan driver task values Absent f = none
calling_by plan driver task values Loaded None = none
calling_by plan driver task values Loaded (Some f) = tasking _

calling : (driver task : ℕ) (name : List ℕ) (values : List ℤ) → Rooms (call driver task name values)
unfolding call
calling driver task name values = any-plan (λ plan. any-run (λ x. any-tasks (λ t.
    declining driver _ (call_obstacle (driver_of x driver).standing (function_named name (unit_of plan driver))
    (fits_values (unit_of plan driver) (function_named name (unit_of plan driver)) (length values)) (is_live t task)) _
    (calling_by plan driver task values (driver_of x driver).standing (function_named name (unit_of plan driver))))))

restarting_driver : (x : RunState) (driver : ℕ) → Rooms (restarts_driver x driver)
restarting_driver x driver = then (running _) (then (restarting driver (driver_of x driver).task) room-deliver)

pub room-restarts : Rooms restarts
unfolding restarts restarts_least
room-restarts = any-run (λ x. again (restarts_left x.drivers) has_due_driver (any-run (λ y. restarting_driver y (least_due y))))

asking : (e : KernelEvent) → Rooms (kernel e)
unfolding kernel
asking e = record { to = λ s. refl }

showing : Rooms show
unfolding show
showing = record { to = λ s. refl }

-- ---- an event

-- room for as many answers fewer
answered-room : (port : ℕ) (vs : List ℤ) (d : Scripted) → d.room ≤ (answered port vs d).room + length vs
answered-room port [] d = omega arith
answered-room port (v ∷ vs) d =
    let more : (with_answer port v d).room ≤ (answered port vs (with_answer port v d)).room + length vs = answered-room port vs (with_answer port v d) in
    omega (arith, more)

few-taken : (n : ℕ) (vs : List ℤ) → length (take n vs) ≤ n
few-taken zero [] = omega arith
few-taken zero (v ∷ vs) = omega arith
few-taken (suc n) [] = omega arith
few-taken (suc n) (v ∷ vs) = omega (arith, few-taken n vs)

-- what one leaves of the room
abbrev Leaves : ℕ → Script → Type 0
Leaves n f = (s : WorldState) → s.devices.room ≤ (does f s).devices.room + n

leaves-all : {f : Script} → Rooms f → Leaves 0 f
leaves-all {f} p = λ s. omega (arith, p.to s)

leaves-takes : (answers : List ℤ) (e : Event) → Leaves (given_by e) (takes_from answers e)
leaves-takes answers (event_of.Load driver task n) = leaves-all (loading_on driver task n)
leaves-takes answers (event_of.Restart driver task) = leaves-all (restarting driver task)
leaves-takes answers (event_of.Unload driver) = leaves-all (unloading driver)
leaves-takes answers (event_of.Call driver task name values n) = leaves-all (calling driver task name _)
leaves-takes answers (event_of.Run task n) = leaves-all (running_task task n)
leaves-takes answers (event_of.Finish task) = leaves-all (finishing task)
leaves-takes answers (event_of.Irq line) = leaves-all (raising line)
leaves-takes answers (event_of.Tick n) = leaves-all (ticking n)
leaves-takes answers (event_of.Work n) = leaves-all (working_on n)
leaves-takes answers (event_of.Answer port first n) =
    λ s. omega (arith, answered-room port (take n (drop first answers)) s.devices, few-taken n (drop first answers))
leaves-takes answers (event_of.Kernel e) = leaves-all (asking e)
leaves-takes answers event_of.Show = leaves-all showing

-- the event leaves all room but that of its answers
pub room-happens : (answers : List ℤ) (e : Event) (s : WorldState) → s.devices.room ≤ (does (happens_from answers e) s).devices.room + given_by e
unfolding happens_from unless_over
room-happens answers e s = by (is_over s.run)
  where
    by : (over : Bool) → s.devices.room ≤ (does (given over nothing (takes_from answers e >> deliver >> restarts)) s).devices.room + given_by e
    by true = omega arith
    by false =
        let behind = (then room-deliver room-restarts).to (does (takes_from answers e) s) in
        omega (arith, leaves-takes answers e s, behind)
