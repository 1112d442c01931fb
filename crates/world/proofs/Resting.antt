-- Task 0 is idle after every event as it was before. Each law says of a script that it leaves task 0 idle, unless the run is over.
-- Here: rests-say, rests-updates, rests-run, rests-fires, rests-tick, rests-works, rests-work, rests-round, rests-run_task, rests-finish,
-- rests-load, rests-restart, rests-unload, rests-call, rests-answer, rests-kernel, rests-show
use Rattle.std.proofs.Common.{◌≡◌, ℕ, zero, suc, ◌+◌, ◌≤◌, Bool, false, List, [], ◌∷◌, length, ℤ, Option, None, Some, arith}
use Rattle.sd_base.specs.declared.history.Update.{Update}
use Rattle.sd_base.specs.History.{History}
use Rattle.timer_table.specs.declared.fired.Fired.{Fired}
use Rattle.share_table.specs.declared.queue.Work.{Work}
use Rattle.share_table.specs.Table.{queue_of}
use Rattle.checked_tree.specs.declared.units.ImageBlock.{ImageBlock}
use Rattle.scenario.specs.declared.event.KernelEvent.{KernelEvent}
use Rattle.run_report.specs.declared.item.Item.{Item}
use Rattle.run_report.specs.declared.item.Item.TheVariants as item
use Rattle.run_report.specs.declared.item.Obstacle.{Obstacle}
use Rattle.run_report.specs.declared.item.Order.{Order}
use Rattle.world_core.specs.declared.run_state.Standing.{Standing}
use Rattle.world_core.specs.declared.run_state.Standing.TheVariants.{Absent, Loaded, Failed}
use Rattle.world_core.specs.declared.run_state.RunState.{RunState}
use Rattle.world_core.specs.WorldState.{WorldState, Plan, Running, Tasks, with_activity, driver_of, is_live, is_over, has_activity, unit_of}
use Rattle.world_core.specs.Script.{Script, say, updates, on_run, on_tasks, by_plan, by_run, by_history, by_tasks, while_at_most}
use Rattle.world_core.specs.Showing.{show}
use Rattle.world_core.specs.Clock.{due_by, fires, fires_if, fires_first, fires_all, has_due, ticks_to, tick}
use Rattle.world_core.specs.Inputs.{works, works_front, works_one, has_work, work, answer, kernel}
use Rattle.world_core.specs.Tasks.{not_blocked, may_go_on, round, rounds, run, finish}
use Rattle.world_core.specs.Handling.{begun}
use Rattle.world_core.specs.Loading.{unless_declined, image_grant, grants_image, begins_init, loads, init_of, load, load_obstacle, restart, restart_obstacle, unload, unload_obstacle, driver_unloaded, calls, call_obstacle, fits_values, function_named, call}
use Rattle.world_core.specs.Restarting.{one_restart_used, restarts_driver}
use Rattle.world_core.proofs.Leading as walk
use Rattle.world.specs.Calm.{IsQuiet}
use Rattle.world.proofs.Calm.{Quiets, quiets-takes_back, quiets-step, quiets-handles, quiets-unless_over, quiets-deliver}

-- ---- parts

any-plan : {k : Plan → Script} → ((x : Plan) → Quiets (k x)) → Quiets (by_plan k)
any-plan p = record { to = λ s a. (p s.plan).to s a }

any-run : {k : RunState → Script} → ((x : RunState) → Quiets (k x)) → Quiets (by_run k)
any-run p = record { to = λ s a. (p s.run).to s a }

any-history : {k : History → Script} → ((x : History) → Quiets (k x)) → Quiets (by_history k)
any-history p = record { to = λ s a. (p s.history).to s a }

any-tasks : {k : Tasks → Script} → ((x : Tasks) → Quiets (k x)) → Quiets (by_tasks k)
any-tasks p = record { to = λ s a. (p s.tasks).to s a }

again : {f : Script} (n : ℕ) (test : WorldState → Bool) → Quiets f → Quiets (while_at_most n test f)
again n test p = walk.leads-while n test (walk.leads-from (λ s a. a.0) p)

pub rests-say : (x : Item) → Quiets (say x)
rests-say x = record { to = λ s quiet. quiet }

pub rests-updates : (owner : ℕ) (u : Update) → Quiets (updates owner u)
rests-updates owner u = record { to = λ s quiet. quiet }

-- a change of the run by which it does not go on again
pub rests-run : (change : RunState → RunState) → ((x : RunState) → is_over (change x) ≡ false → is_over x ≡ false) → Quiets (on_run change)
rests-run change over = record { to = λ s quiet e. quiet (over s.run e) }

other-task : (tasks : Tasks) (task : ℕ) (x : Option Running) → 1 ≤ task → is_live tasks 0 ≡ false → is_live (with_activity task x tasks) 0 ≡ false
other-task tasks zero x some idle = absurd (omega arith)
other-task [] (suc t) x some idle = idle
other-task (y ∷ ys) (suc t) x some idle = idle

rests-begun : (plan : Plan) (task owner function : ℕ) (arguments : List ℤ) → 1 ≤ task → Quiets (on_tasks (begun plan task owner function arguments))
rests-begun plan task owner function arguments some = record { to = λ s quiet e. other-task s.tasks task _ some (quiet e) }

-- ---- the clock

pub rests-fires : (t : Fired) → Quiets (fires t)
unfolding fires
rests-fires t = walk.leads-then (rests-updates 0 _) (walk.leads-then (rests-updates t.owner _) (walk.leads-then (rests-say _)
    (walk.leads-then (quiets-handles t.owner t.handler t.arg) quiets-deliver)))

fires-if : (t : Option Fired) → Quiets (fires_if t)
fires-if None = walk.leads-nothing
fires-if (Some t) = rests-fires t

pub rests-fires_first : (moment : ℕ) → Quiets (fires_first moment)
unfolding fires_first
rests-fires_first moment = any-history (λ h. fires-if (due_by moment h))

pub rests-fires_all : (moment : ℕ) → Quiets (fires_all moment)
unfolding fires_all
rests-fires_all moment = any-run (λ x. again (x.left + 1) (has_due moment) (rests-fires_first moment))

rests-ticks : (moment : ℕ) → Quiets (ticks_to moment)
unfolding ticks_to
rests-ticks moment = walk.leads-then (rests-fires_all moment) (quiets-unless_over _ (rests-updates 0 _))

pub rests-tick : (n : ℕ) → Quiets (tick n)
unfolding tick
rests-tick n = any-history (λ h. walk.leads-given _ (λ e. rests-say item.TickRefused) (λ e. rests-ticks _))

-- ---- work

pub rests-works : (w : Work) → Quiets (works w)
unfolding works
rests-works w = walk.leads-then (rests-updates w.owner _) (walk.leads-then (rests-say _)
    (walk.leads-then (quiets-handles w.owner w.handler w.arg) quiets-deliver))

works-front : (ws : List Work) → Quiets (works_front ws)
works-front [] = walk.leads-nothing
works-front (w ∷ ws) = rests-works w

pub rests-works_one : Quiets works_one
unfolding works_one
rests-works_one = any-history (λ h. works-front (queue_of h))

pub rests-work : (n : ℕ) → Quiets (work n)
unfolding work
rests-work n = again n has_work rests-works_one

-- ---- tasks

pub rests-blocked : Quiets (on_run not_blocked)
rests-blocked = rests-run not_blocked (λ x e. e)

pub rests-round : (task : ℕ) → 1 ≤ task → Quiets (round task)
unfolding round
rests-round task some = walk.leads-then (quiets-step task some) quiets-deliver

rests-rounds : (task n : ℕ) → 1 ≤ task → Quiets (rounds task n)
unfolding rounds
rests-rounds task n some = walk.leads-then rests-blocked (again n (may_go_on task) (rests-round task some))

pub rests-run_task : (task n : ℕ) → 1 ≤ task → Quiets (run task n)
unfolding run
rests-run_task task n some = any-tasks (λ t. walk.leads-given (is_live t task) (λ e. rests-rounds task n some) (λ e. rests-say (item.Idle task)))

pub rests-finish : (task : ℕ) → 1 ≤ task → Quiets (finish task)
unfolding finish
rests-finish task some = any-run (λ x. rests-run_task task (x.left + 1) some)

-- ---- orders

declined : (driver : ℕ) (what : Order) (why : Option Obstacle) (done : Script) → Quiets done → Quiets (unless_declined driver what why done)
declined driver what None done p = p
declined driver what (Some why) done p = rests-say (item.Declined driver what why)

rests-grants : (driver : ℕ) (image : List ImageBlock) → Quiets (grants_image driver image)
rests-grants driver [] = walk.leads-nothing
rests-grants driver (b ∷ bs) = walk.leads-then (rests-updates driver (image_grant b)) (rests-grants driver bs)

rests-init : (plan : Plan) (driver task : ℕ) (f : Option ℕ) → 1 ≤ task → Quiets (begins_init plan driver task f)
rests-init plan driver task None some = walk.leads-nothing
rests-init plan driver task (Some f) some = rests-begun plan task driver f [] some

rests-loads : (plan : Plan) (driver task : ℕ) → 1 ≤ task → Quiets (loads plan driver task)
unfolding loads
rests-loads plan driver task some = walk.leads-then {B = IsQuiet} (record { to = λ s quiet. quiet })
    (walk.leads-then {B = IsQuiet} (record { to = λ s quiet. quiet })
    (walk.leads-then (rests-grants driver (unit_of plan driver).image) (rests-init plan driver task (init_of (unit_of plan driver)) some)))

pub rests-load : (driver task restarts : ℕ) → 1 ≤ task → Quiets (load driver task restarts)
unfolding load
rests-load driver task restarts some = any-plan (λ plan. any-run (λ x. any-tasks (λ t.
    declined driver _ (load_obstacle (driver_of x driver).standing (init_of (unit_of plan driver)) (is_live t task)) _
    (walk.leads-then (rests-run _ (λ y e. e)) (walk.leads-then (rests-loads plan driver task some) (rests-say (item.Loaded driver)))))))

pub rests-restart : (driver task : ℕ) → 1 ≤ task → Quiets (restart driver task)
unfolding restart
rests-restart driver task some = any-plan (λ plan. any-run (λ x. any-tasks (λ t.
    declined driver _ (restart_obstacle (driver_of x driver).standing (is_live t task)) _
    (walk.leads-then (rests-run _ (λ y e. e)) (walk.leads-then (rests-loads plan driver task some) (rests-say (item.Restarted driver)))))))

pub rests-unload : (driver : ℕ) → Quiets (unload driver)
unfolding unload
rests-unload driver = any-run (λ x. any-tasks (λ t.
    declined driver _ (unload_obstacle (driver_of x driver).standing (has_activity t driver)) _
    (walk.leads-then (rests-say (item.Unloaded driver)) (quiets-takes_back driver (driver_unloaded driver) (λ y e. e)))))

rests-calls : (plan : Plan) (driver task : ℕ) (values : List ℤ) (standing : Standing) (f : Option ℕ) → 1 ≤ task → Quiets (calls plan driver task values standing f)
rests-calls plan driver task values Failed f some = rests-say _
rests-calls plan driver task values Absent f some = walk.leads-nothing
rests-calls plan driver task values Loaded None some = walk.leads-nothing
rests-calls plan driver task values Loaded (Some f) some = rests-begun plan task driver f values some

pub rests-call : (driver task : ℕ) (name : List ℕ) (values : List ℤ) → 1 ≤ task → Quiets (call driver task name values)
unfolding call
rests-call driver task name values some = any-plan (λ plan. any-run (λ x. any-tasks (λ t.
    declined driver _ (call_obstacle (driver_of x driver).standing (function_named name (unit_of plan driver))
    (fits_values (unit_of plan driver) (function_named name (unit_of plan driver)) (length values)) (is_live t task)) _
    (rests-calls plan driver task values (driver_of x driver).standing (function_named name (unit_of plan driver)) some))))

pub rests-used : (driver : ℕ) → Quiets (on_run (one_restart_used driver))
rests-used driver = rests-run (one_restart_used driver) (λ y e. e)

pub rests-restarts_driver : (x : RunState) (driver : ℕ) → 1 ≤ (driver_of x driver).task → Quiets (restarts_driver x driver)
rests-restarts_driver x driver some = walk.leads-then (rests-run (one_restart_used driver) (λ y e. e))
    (walk.leads-then (rests-restart driver (driver_of x driver).task some) quiets-deliver)

-- ---- answers, the kernel, the tables

pub rests-answer : (port first n : ℕ) → Quiets (answer port first n)
unfolding answer
rests-answer port first n = record { to = λ s quiet. quiet }

pub rests-kernel : (e : KernelEvent) → Quiets (kernel e)
unfolding kernel
rests-kernel e = record { to = λ s quiet. quiet }

pub rests-show : Quiets show
unfolding show
rests-show = record { to = λ s quiet. quiet }
