-- A driver that is due to be started anew, or that will be where it fails, has a task: that of its last load.
-- Here: Sets, due-after, sets-deliver, sets-restarts_driver, sets-restarts, sets-takes; next-over, next-driver, has-task, least-task
use Rattle.std.proofs.Common.{◌≡◌, ℕ, zero, suc, ◌+◌, ◌-◌, ◌≤◌, ◌<◌, Bool, true, false, cond, not, ◌&&◌, ◌||◌, ltb, List, [], ◌∷◌, get_or, set, length, ℤ, Option, None, Some, refl, sym, ap, ◌∙◌, subst, arith, true≢false}
use Rattle.std.proofs.Common.{MatchOption, take}
use Rattle.std.specs.List.{position_or_len}
use Rattle.std.proofs.lemmas.Bool.Decides.{nat_tests}
use Rattle.sd_base.specs.declared.history.Update.{Update}
use Rattle.sd_base.specs.History.{History}
use Rattle.timer_table.specs.declared.fired.Fired.{Fired}
use Rattle.share_table.specs.declared.queue.Work.{Work}
use Rattle.share_table.specs.Table.{queue_of}
use Rattle.checked_tree.specs.declared.units.CheckedUnit.{CheckedUnit}
use Rattle.checked_tree.specs.declared.units.ImageBlock.{ImageBlock}
use Rattle.scenario.specs.declared.event.Event.{Event}
use Rattle.scenario.specs.declared.event.Event.TheVariants as event_of
use Rattle.run_report.specs.declared.item.Item.{Item}
use Rattle.run_report.specs.declared.item.Item.TheVariants as item
use Rattle.run_report.specs.declared.item.Obstacle.{Obstacle}
use Rattle.run_report.specs.declared.item.Order.{Order}
use Rattle.world_core.specs.declared.run_state.Standing.{Standing}
use Rattle.world_core.specs.declared.run_state.Standing.TheVariants.{Absent, Loaded, Failed}
use Rattle.world_core.specs.declared.run_state.DriverState.{DriverState}
use Rattle.world_core.specs.declared.run_state.RunState.{RunState}
use Rattle.world_core.specs.WorldState.{WorldState, Plan, Tasks, with_owner, not_loaded, driver_of, with_driver, is_live, is_over, has_activity, unit_of}
use Rattle.world_core.specs.Script.{Script, say, updates, on_run, by_plan, by_run, by_history, by_tasks, while_at_most, does}
use Rattle.world_core.specs.Showing.{show}
use Rattle.world_core.specs.Failing.{fails, strays, takes_back, failed}
use Rattle.world_core.specs.Delivering.{delivers_least, least_waiting, can_deliver, deliver, irq, still_waits, with_waiting}
use Rattle.world_core.specs.Clock.{due_by, fires, fires_if, fires_first, fires_all, has_due, ticks_to, tick}
use Rattle.world_core.specs.Inputs.{works, works_front, works_one, has_work, work, answer, kernel}
use Rattle.world_core.specs.Tasks.{may_go_on, round, rounds, run, finish}
use Rattle.world_core.specs.Loading.{unless_declined, image_grant, grants_image, begins_init, loads, init_of, load, load_obstacle, driver_loaded, restart, restart_obstacle, driver_restarted, unload, unload_obstacle, driver_unloaded, calls, call_obstacle, fits_values, function_named, call}
use Rattle.world_core.specs.Restarting.{restarts_left, least_due, one_restart_used, restarts_driver, has_due_driver, restarts_least, restarts}
use Rattle.world_core.specs.Events.{takes}
use Rattle.world_core.proofs.Leading as walk
use Rattle.world_core.proofs.Keeping.{Acting, Stepping, keep-takes_back, keep-step, keep-handles, keep-unless_over, keep-delivers}
use Rattle.world.specs.Standing.{Here, IsWorld, IsGood, Leads}
use Rattle.world.specs.Going.{Decides}
use Rattle.world.specs.Ready.{HasLoadTask, AreDueSet, some_due, first_due, NextDriver}

abbrev pub Due : WorldState → Type 0
Due s = AreDueSet s.run

abbrev pub Sets : Script → Type 0
Sets f = walk.Leads Due Due f

pub due-after : {units : List CheckedUnit} {a b : Here} {f : Script} → IsGood units a → Leads units a b f → Sets f → AreDueSet a.live.ground.run
    → AreDueSet b.live.ground.run
due-after {f} good p sets due =
    let was : AreDueSet good.state.run = subst AreDueSet good.is.ground.run due in
    subst AreDueSet (sym (p.to good.first good.faults good.state good.is).ground.run) (sets.to good.state was)

-- ---- one driver's state is changed

of-set : (xs : List DriverState) (j k : ℕ) (d : DriverState) → HasLoadTask d → HasLoadTask (get_or xs k not_loaded) → HasLoadTask (get_or (set xs j d) k not_loaded)
of-set [] j k d new old = old
of-set (x ∷ xs) zero zero d new old = new
of-set (x ∷ xs) zero (suc k) d new old = old
of-set (x ∷ xs) (suc j) zero d new old = old
of-set (x ∷ xs) (suc j) (suc k) d new old = of-set xs j k d new old

of-owner : (xs : List DriverState) (owner k : ℕ) (d : DriverState) → HasLoadTask d → HasLoadTask (get_or xs k not_loaded) → HasLoadTask (get_or (with_owner xs owner d) k not_loaded)
of-owner xs zero k d new old = old
of-owner xs (suc j) k d new old = of-set xs j k d new old

with-set : (x : RunState) (owner : ℕ) (d : DriverState) → AreDueSet x → HasLoadTask d → AreDueSet (with_driver owner d x)
with-set x owner d due new = record { each = λ k. of-owner x.drivers owner k d new (due.each k) }

own-task : (x : RunState) (owner : ℕ) → AreDueSet x → HasLoadTask (driver_of x owner)
own-task x zero due = λ e. absurd (true≢false (sym e))
own-task x (suc k) due = due.each k

sets-run : (change : RunState → RunState) → ((x : RunState) → AreDueSet x → AreDueSet (change x)) → Sets (on_run change)
sets-run change keeps = record { to = λ s due. keeps s.run due }

failed-set : (d : DriverState) → HasLoadTask d → HasLoadTask (failed d)
failed-set d set = λ e. set (more (ltb 0 d.restarts) d.is_due e)
  where
    more : (a b : Bool) → a || a ≡ true → a || b ≡ true
    more true b e = refl
    more false b e = absurd (true≢false (sym e))

-- another standing alone
stands-set : (d : DriverState) (standing : Standing) → HasLoadTask d → HasLoadTask (record d { standing = standing })
stands-set d standing set = set

none-set : (d : DriverState) → HasLoadTask (record d { standing = Absent; restarts = 0; is_due = false })
none-set d = λ e. absurd (true≢false (sym e))

used-set : (d : DriverState) → HasLoadTask d → HasLoadTask (record d { restarts = d.restarts - 1; is_due = false })
used-set d set = λ e. set (more d.restarts d.is_due e)
  where
    more : (n : ℕ) (b : Bool) → ltb 0 (n - 1) || false ≡ true → ltb 0 n || b ≡ true
    more n b e = let some : ltb 0 n ≡ true = grind (arith, nat_tests) in ap (λ t. t || b) some

-- ---- a step

acting : Acting Due
unfolding fails takes_back show strays
acting = record {
  saying = λ x quiet. record { to = λ s due. due };
  listing = λ xs quiet. record { to = λ s due. due };
  updating = λ owner u. record { to = λ s due. due };
  leaving = λ owner. record { to = λ s due. due };
  tasks = λ change same. record { to = λ s due. due };
  memories = λ change same. record { to = λ s due. due };
  devices = λ change. record { to = λ s due. due };
  failing = λ who kind line. record {
    to = λ s due. record {
      each = (with-set s.run who.owner (failed (driver_of s.run who.owner)) due
          (failed-set (driver_of s.run who.owner) (own-task s.run who.owner due))).each;
    };
  };
  astray = λ who line. record { to = λ s due. record { each = due.each } };
  blocked = record { to = λ s due. record { each = due.each } };
}

stepping : Stepping Due
stepping = record {
  acting = acting;
  stopping = record { to = λ s due. record { each = due.each } };
  taking = record { to = λ s due. record { each = due.each } };
}

-- ---- parts

any-plan : {k : Plan → Script} → ((x : Plan) → Sets (k x)) → Sets (by_plan k)
any-plan p = record { to = λ s a. (p s.plan).to s a }

any-run : {k : RunState → Script} → ((x : RunState) → Sets (k x)) → Sets (by_run k)
any-run p = record { to = λ s a. (p s.run).to s a }

any-history : {k : History → Script} → ((x : History) → Sets (k x)) → Sets (by_history k)
any-history p = record { to = λ s a. (p s.history).to s a }

any-tasks : {k : Tasks → Script} → ((x : Tasks) → Sets (k x)) → Sets (by_tasks k)
any-tasks p = record { to = λ s a. (p s.tasks).to s a }

again : {f : Script} (n : ℕ) (test : WorldState → Bool) → Sets f → Sets (while_at_most n test f)
again n test p = walk.leads-while n test (walk.leads-from (λ s a. a.0) p)

says-set : (x : Item) → Sets (say x)
says-set x = record { to = λ s due. due }

updates-set : (owner : ℕ) (u : Update) → Sets (updates owner u)
updates-set owner u = record { to = λ s due. due }

lines-set : (line : ℕ) (waits : Bool) → Sets (on_run (with_waiting line waits))
lines-set line waits = record { to = λ s due. record { each = due.each } }

-- ---- delivery, the clock, work, tasks

pub sets-deliver : Sets deliver
unfolding deliver delivers_least
sets-deliver = again 64 can_deliver (any-run (λ x. keep-delivers stepping (λ line. lines-set line false) (least_waiting x)))

sets-irq : (line : ℕ) → Sets (irq line)
unfolding irq
sets-irq line = walk.leads-then (lines-set line true) (walk.leads-then sets-deliver
    (any-run (λ x. walk.leads-given (still_waits line x) (λ e. says-set _) (λ e. walk.leads-nothing))))

sets-fires : (t : Fired) → Sets (fires t)
unfolding fires
sets-fires t = walk.leads-then (updates-set 0 _) (walk.leads-then (updates-set t.owner _) (walk.leads-then (says-set _)
    (walk.leads-then (keep-handles stepping t.owner t.handler t.arg) sets-deliver)))

sets-fires_if : (t : Option Fired) → Sets (fires_if t)
sets-fires_if None = walk.leads-nothing
sets-fires_if (Some t) = sets-fires t

sets-fires_all : (moment : ℕ) → Sets (fires_all moment)
unfolding fires_all fires_first
sets-fires_all moment = any-run (λ x. again (x.left + 1) (has_due moment) (record { to = λ s a. (sets-fires_if (due_by moment s.history)).to s a }))

sets-ticks : (moment : ℕ) → Sets (ticks_to moment)
unfolding ticks_to
sets-ticks moment = walk.leads-then (sets-fires_all moment) (keep-unless_over _ (updates-set 0 _))

sets-tick : (n : ℕ) → Sets (tick n)
unfolding tick
sets-tick n = any-history (λ h. walk.leads-given _ (λ e. says-set item.TickRefused) (λ e. sets-ticks _))

sets-works : (w : Work) → Sets (works w)
unfolding works
sets-works w = walk.leads-then (updates-set w.owner _) (walk.leads-then (says-set _)
    (walk.leads-then (keep-handles stepping w.owner w.handler w.arg) sets-deliver))

sets-works_front : (ws : List Work) → Sets (works_front ws)
sets-works_front [] = walk.leads-nothing
sets-works_front (w ∷ ws) = sets-works w

sets-work : (n : ℕ) → Sets (work n)
unfolding work works_one
sets-work n = again n has_work (record { to = λ s a. (sets-works_front (queue_of s.history)).to s a })

sets-rounds : (task n : ℕ) → Sets (rounds task n)
unfolding rounds round
sets-rounds task n = walk.leads-then (record { to = λ s due. record { each = due.each } })
    (again n (may_go_on task) (walk.leads-then (keep-step stepping task) sets-deliver))

sets-run_task : (task n : ℕ) → Sets (run task n)
unfolding run
sets-run_task task n = any-tasks (λ t. walk.leads-given (is_live t task) (λ e. sets-rounds task n) (λ e. says-set (item.Idle task)))

sets-finish : (task : ℕ) → Sets (finish task)
unfolding finish
sets-finish task = any-run (λ x. sets-run_task task (x.left + 1))

-- ---- orders

declined : (driver : ℕ) (what : Order) (why : Option Obstacle) (done : Script) → Sets done → Sets (unless_declined driver what why done)
declined driver what None done p = p
declined driver what (Some why) done p = says-set (item.Declined driver what why)

grants-set : (driver : ℕ) (image : List ImageBlock) → Sets (grants_image driver image)
grants-set driver [] = walk.leads-nothing
grants-set driver (b ∷ bs) = walk.leads-then (updates-set driver (image_grant b)) (grants-set driver bs)

init-set : (plan : Plan) (driver task : ℕ) (f : Option ℕ) → Sets (begins_init plan driver task f)
init-set plan driver task None = walk.leads-nothing
init-set plan driver task (Some f) = record { to = λ s due. due }

loads-set : (plan : Plan) (driver task : ℕ) → Sets (loads plan driver task)
unfolding loads
loads-set plan driver task = walk.leads-then {B = Due} (record { to = λ s due. due }) (walk.leads-then {B = Due} (record { to = λ s due. due })
    (walk.leads-then (grants-set driver (unit_of plan driver).image) (init-set plan driver task (init_of (unit_of plan driver)))))

sets-load : (driver task restarts : ℕ) → 1 ≤ task → task ≤ 8 → Sets (load driver task restarts)
unfolding load
sets-load driver task restarts some few = any-plan (λ plan. any-run (λ x. any-tasks (λ t.
    declined driver _ (load_obstacle (driver_of x driver).standing (init_of (unit_of plan driver)) (is_live t task)) _
    (walk.leads-then (sets-run (driver_loaded driver task restarts) (λ y due. with-set y driver _ due (λ e. (some, few))))
    (walk.leads-then (loads-set plan driver task) (says-set (item.Loaded driver)))))))

sets-restart : (driver task : ℕ) → Sets (restart driver task)
unfolding restart
sets-restart driver task = any-plan (λ plan. any-run (λ x. any-tasks (λ t.
    declined driver _ (restart_obstacle (driver_of x driver).standing (is_live t task)) _
    (walk.leads-then (sets-run (driver_restarted driver) (λ y due. with-set y driver _ due (stands-set (driver_of y driver) Loaded (own-task y driver due))))
    (walk.leads-then (loads-set plan driver task) (says-set (item.Restarted driver)))))))

sets-unload : (driver : ℕ) → Sets (unload driver)
unfolding unload
sets-unload driver = any-run (λ x. any-tasks (λ t.
    declined driver _ (unload_obstacle (driver_of x driver).standing (has_activity t driver)) _
    (walk.leads-then (says-set (item.Unloaded driver)) (keep-takes_back driver (driver_unloaded driver)
    (record { to = λ s due. due }) (record { to = λ s due. due }) (record { to = λ s due. due })
    (sets-run (driver_unloaded driver) (λ y due. with-set y driver _ due (none-set (driver_of y driver))))
    (λ xs none. record { to = λ s due. due })))))

calls-set : (plan : Plan) (driver task : ℕ) (values : List ℤ) (standing : Standing) (f : Option ℕ) → Sets (calls plan driver task values standing f)
calls-set plan driver task values Failed f = says-set _
calls-set plan driver task values Absent f = walk.leads-nothing
calls-set plan driver task values Loaded None = walk.leads-nothing
calls-set plan driver task values Loaded (Some f) = record { to = λ s due. due }

sets-call : (driver task : ℕ) (name : List ℕ) (values : List ℤ) → Sets (call driver task name values)
unfolding call
sets-call driver task name values = any-plan (λ plan. any-run (λ x. any-tasks (λ t.
    declined driver _ (call_obstacle (driver_of x driver).standing (function_named name (unit_of plan driver))
    (fits_values (unit_of plan driver) (function_named name (unit_of plan driver)) (length values)) (is_live t task)) _
    (calls-set plan driver task values (driver_of x driver).standing (function_named name (unit_of plan driver))))))

-- ---- restarts

pub sets-used : (driver : ℕ) → Sets (on_run (one_restart_used driver))
sets-used driver = sets-run (one_restart_used driver) (λ y due. with-set y driver _ due (used-set (driver_of y driver) (own-task y driver due)))

pub sets-restarts_driver : (x : RunState) (driver : ℕ) → Sets (restarts_driver x driver)
sets-restarts_driver x driver = walk.leads-then (sets-used driver) (walk.leads-then (sets-restart driver (driver_of x driver).task) sets-deliver)

pub sets-restarts : Sets restarts
unfolding restarts restarts_least
sets-restarts = any-run (λ x. again (restarts_left x.drivers) has_due_driver (any-run (λ y. sets-restarts_driver y (least_due y))))

-- ---- an event

-- a load names a task from 1 to 8
abbrev pub LoadsOnTask : Event → Type 0
LoadsOnTask (event_of.Load driver task n) = (1 ≤ task) × (task ≤ 8)
LoadsOnTask _ = Unit {0}

pub sets-takes : (e : Event) → LoadsOnTask e → Sets (takes e)
unfolding answer kernel show
sets-takes (event_of.Load driver task n) fit = sets-load driver task n fit.0 fit.1
sets-takes (event_of.Restart driver task) fit = sets-restart driver task
sets-takes (event_of.Unload driver) fit = sets-unload driver
sets-takes (event_of.Call driver task name values n) fit = sets-call driver task name _
sets-takes (event_of.Run task n) fit = sets-run_task task n
sets-takes (event_of.Finish task) fit = sets-finish task
sets-takes (event_of.Irq line) fit = sets-irq line
sets-takes (event_of.Tick n) fit = sets-tick n
sets-takes (event_of.Work n) fit = sets-work n
sets-takes (event_of.Answer port first n) fit = record { to = λ s due. due }
sets-takes (event_of.Kernel e) fit = record { to = λ s due. due }
sets-takes event_of.Show fit = record { to = λ s due. due }

-- ---- the driver that is next

none-next : (over due : Bool) → over ≡ true → not over && due ≡ false
none-next true due e = refl
none-next false due e = absurd (true≢false (sym e))

goes-next : (over due b : Bool) → over ≡ false → due ≡ b → not over && due ≡ b
goes-next true due b o d = absurd (true≢false o)
goes-next false due b o d = d

pub next-over : (x : RunState) → is_over x ≡ true → NextDriver x None
next-over x over = none-next (is_over x) (some_due x.drivers) over

pub next-driver : (x : RunState) (driver : Option ℕ) → is_over x ≡ false
    → MatchOption driver (some_due x.drivers ≡ false) (λ d. (some_due x.drivers ≡ true) × (d ≡ least_due x) × (d ≤ 4)) → NextDriver x driver
next-driver x None goes found = goes-next (is_over x) (some_due x.drivers) false goes found
next-driver x (Some d) goes found = (goes-next (is_over x) (some_due x.drivers) true goes found.0, found.1, found.2)

pub no-driver : (units : List CheckedUnit) (a : Here) → NextDriver a.live.ground.run None → Decides units a has_due_driver false
no-driver units a next = record { to = λ first faults s w. subst (λ x. not (is_over x) && some_due x.drivers ≡ false) w.ground.run next }

pub a-driver : (units : List CheckedUnit) (a : Here) (driver : ℕ) → NextDriver a.live.ground.run (Some driver) → Decides units a has_due_driver true
a-driver units a driver next = record { to = λ first faults s w. subst (λ x. not (is_over x) && some_due x.drivers ≡ true) w.ground.run next.0 }

-- the driver that was found is the least
pub least-restarted : (units : List CheckedUnit) (a b : Here) (driver : ℕ) → NextDriver a.live.ground.run (Some driver)
    → Leads units a b (restarts_driver a.live.ground.run driver) → Leads units a b restarts_least
unfolding restarts_least
least-restarted units a b driver next p = record {
  to = λ first faults s w.
      let least : driver ≡ least_due a.live.ground.run = next.1 in
      subst (λ x. IsWorld units b first faults (does (restarts_driver x (least_due x)) s)) w.ground.run
      (subst (λ d. IsWorld units b first faults (does (restarts_driver a.live.ground.run d) s)) least (p.to first faults s w));
}

-- a driver that is due has its task
due-by : (d : DriverState) (ds : List DriverState) (b : Bool) → d.is_due ≡ b
    → (some_due ds ≡ true → (get_or ds (position_or_len (λ (d : DriverState). d.is_due) ds) not_loaded).is_due ≡ true) → some_due (d ∷ ds) ≡ true
    → (get_or (d ∷ ds) (position_or_len (λ (d : DriverState). d.is_due) (d ∷ ds)) not_loaded).is_due ≡ true
due-by d ds true is more e =
    let rest = position_or_len (λ (d : DriverState). d.is_due) ds in
    ap (λ t. (get_or (d ∷ ds) (cond (not t) (1 + rest) 0) not_loaded).is_due) is ∙ is
due-by d ds false is more e =
    let rest = position_or_len (λ (d : DriverState). d.is_due) ds in
    let next : 1 + rest ≡ suc rest = omega arith in
    ap (λ t. (get_or (d ∷ ds) (cond (not t) (1 + rest) 0) not_loaded).is_due) is
    ∙ ap (λ k. (get_or (d ∷ ds) k not_loaded).is_due) next
    ∙ more (ap (λ t. t || some_due ds) (sym is) ∙ e)

due-at : (xs : List DriverState) → some_due xs ≡ true → (get_or xs (position_or_len (λ (d : DriverState). d.is_due) xs) not_loaded).is_due ≡ true
due-at [] e = absurd (true≢false (sym e))
due-at (d ∷ ds) e = due-by d ds d.is_due refl (due-at ds) e

or-right : (a b : Bool) → b ≡ true → a || b ≡ true
or-right true b e = refl
or-right false b e = e

some-is : (over due : Bool) → not over && due ≡ true → due ≡ true
some-is true due e = absurd (true≢false (sym e))
some-is false due e = e

-- the task of the driver that is next
pub has-task : (x : RunState) (driver : ℕ) → AreDueSet x → NextDriver x (Some driver) → (1 ≤ (driver_of x driver).task) × ((driver_of x driver).task ≤ 8)
has-task x driver due next =
    let place = position_or_len (λ (d : DriverState). d.is_due) x.drivers in
    let is : (get_or x.drivers place not_loaded).is_due ≡ true = due-at x.drivers (some-is (is_over x) (some_due x.drivers) next.0) in
    let here : suc place ≡ driver = omega (arith, next.1) in
    subst (λ d. (1 ≤ (driver_of x d).task) × ((driver_of x d).task ≤ 8)) here
    (due.each place (or-right (ltb 0 (get_or x.drivers place not_loaded).restarts) (get_or x.drivers place not_loaded).is_due is))

-- the driver of least number that is due, where one is, has its task
pub least-task : (x : RunState) → AreDueSet x → not (is_over x) && some_due x.drivers ≡ true → 1 ≤ (driver_of x (least_due x)).task
least-task x due next =
    let place = position_or_len (λ (d : DriverState). d.is_due) x.drivers in
    let is : (get_or x.drivers place not_loaded).is_due ≡ true = due-at x.drivers (some-is (is_over x) (some_due x.drivers) next) in
    let here : suc place ≡ least_due x = omega arith in
    subst (λ d. 1 ≤ (driver_of x d).task) here
    (due.each place (or-right (ltb 0 (get_or x.drivers place not_loaded).restarts) (get_or x.drivers place not_loaded).is_due is)).0

-- ---- looked for from the front

abbrev pub no_due_before : List DriverState → ℕ → Type 0
no_due_before xs k = some_due (take k xs) ≡ false

one-more : (xs : List DriverState) (k : ℕ) (none : DriverState) → none.is_due ≡ false → no_due_before xs k → (get_or xs k none).is_due ≡ false → no_due_before xs (suc k)
one-more [] k none n before e = refl
one-more (d ∷ ds) zero none n before e = ap (λ t. t || false) e
one-more (d ∷ ds) (suc k) none n before e =
    ap (λ t. t || some_due (take (suc k) ds)) (left (d.is_due) (some_due (take k ds)) before) ∙ one-more ds k none n (right (d.is_due) (some_due (take k ds)) before) e
  where
    left : (a b : Bool) → a || b ≡ false → a ≡ false
    left true b e = absurd (true≢false e)
    left false b e = refl

    right : (a b : Bool) → a || b ≡ false → b ≡ false
    right true b e = absurd (true≢false e)
    right false b e = e

pub none-so_far : (xs : List DriverState) (k : ℕ) (none : DriverState) → none.is_due ≡ false → no_due_before xs k → (get_or xs k none).is_due ≡ false → no_due_before xs (k + 1)
none-so_far xs k none n before e = let next : suc k ≡ k + 1 = omega arith in subst (λ m. no_due_before xs m) next (one-more xs k none n before e)

pub four-left : (xs : List DriverState) (none : DriverState) → length xs ≡ 4 →
    (get_or xs 0 none).restarts + (get_or xs 1 none).restarts + (get_or xs 2 none).restarts + (get_or xs 3 none).restarts ≡ restarts_left xs
four-left [] none e = absurd (omega arith)
four-left (a ∷ []) none e = absurd (omega arith)
four-left (a ∷ b ∷ []) none e = absurd (omega arith)
four-left (a ∷ b ∷ c ∷ []) none e = absurd (omega arith)
four-left (a ∷ b ∷ c ∷ d ∷ []) none e = omega arith
four-left (a ∷ b ∷ c ∷ d ∷ f ∷ xs) none e = absurd (omega arith)

-- the first that is due stands at its place
first-at : (xs : List DriverState) (k : ℕ) (none : DriverState) → none.is_due ≡ false → no_due_before xs k → (get_or xs k none).is_due ≡ true
    → (some_due xs ≡ true) × (position_or_len (λ (d : DriverState). d.is_due) xs ≡ k)
first-at [] k none n before e = absurd (true≢false (sym e ∙ n))
first-at (d ∷ ds) zero none n before e = (
  ap (λ t. t || some_due ds) e,
  ap (λ t. cond (not t) (1 + position_or_len (λ (d : DriverState). d.is_due) ds) 0) e,
)
first-at (d ∷ ds) (suc k) none n before e =
    let here : d.is_due ≡ false = left d.is_due (some_due (take k ds)) before in
    let more = first-at ds k none n (right d.is_due (some_due (take k ds)) before) e in
    let next : 1 + position_or_len (λ (d : DriverState). d.is_due) ds ≡ suc k = omega (arith, more.1) in
    (ap (λ t. t || some_due ds) here ∙ more.0, ap (λ t. cond (not t) (1 + position_or_len (λ (d : DriverState). d.is_due) ds) 0) here ∙ next)
  where
    left : (a b : Bool) → a || b ≡ false → a ≡ false
    left true b e = absurd (true≢false e)
    left false b e = refl

    right : (a b : Bool) → a || b ≡ false → b ≡ false
    right true b e = absurd (true≢false e)
    right false b e = e

pub first-due : (xs : List DriverState) (k : ℕ) (none : DriverState) → none.is_due ≡ false → k < 4 → no_due_before xs k → (get_or xs k none).is_due ≡ true
    → (some_due xs ≡ true) × (k + 1 ≡ first_due xs) × (k + 1 ≤ 4)
first-due xs k none n below before e =
    let found = first-at xs k none n before e in
    (found.0, ap (λ m. m + 1) (sym found.1), omega arith)

pub none-due : (xs : List DriverState) (k : ℕ) → length xs ≤ k → no_due_before xs k → some_due xs ≡ false
none-due [] k all before = refl
none-due (d ∷ ds) zero all before = absurd (omega arith)
none-due (d ∷ ds) (suc k) all before =
    ap (λ t. t || some_due ds) (left d.is_due (some_due (take k ds)) before) ∙ none-due ds k (omega arith) (right d.is_due (some_due (take k ds)) before)
  where
    left : (a b : Bool) → a || b ≡ false → a ≡ false
    left true b e = absurd (true≢false e)
    left false b e = refl

    right : (a b : Bool) → a || b ≡ false → b ≡ false
    right true b e = absurd (true≢false e)
    right false b e = e

-- at a place that is known by another number
pub due-of : (xs : List DriverState) (i k : ℕ) (none : DriverState) → i ≡ k → (get_or xs i none).is_due ≡ true → (get_or xs k none).is_due ≡ true
due-of xs i k none same e = subst (λ m. (get_or xs m none).is_due ≡ true) same e
