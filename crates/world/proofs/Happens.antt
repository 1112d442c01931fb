-- An event as the code carries it out: afterwards events may take place as before, and it is the definition's where the plan has these answers.
-- Here: Kept, rests-takes, sets-takes_from, kept-happens, opens, same-happens, carries-event, opens-event, room-event
use Rattle.std.proofs.Common.{◌≡◌, ◌+◌, ◌≤◌, Bool, true, false, List, take, drop, ℤ, refl, sym, ap, ◌∙◌, subst, arith}
use Rattle.checked_tree.specs.declared.units.CheckedUnit.{CheckedUnit}
use Rattle.scenario.specs.declared.event.Event.{Event}
use Rattle.scenario.specs.declared.event.Event.TheVariants as event_of
use Rattle.scenario.specs.Fits.{IsFit}
use Rattle.driver_host.specs.Printing.{Out}
use Rattle.world_core.specs.WorldState.{WorldState, Plan, is_over}
use Rattle.world_core.specs.Script.{Script, nothing, given, does, on_devices, unless_over, ◌>>◌}
use Rattle.world_core.specs.Inputs.{answer, answered}
use Rattle.world_core.specs.Delivering.{deliver}
use Rattle.world_core.specs.Restarting.{restarts_left, least_due, has_due_driver, restarts_least, restarts}
use Rattle.world_core.specs.Events.{takes, event}
use Rattle.world_core.proofs.Leading as walk
use Rattle.world_core.proofs.Lawful.{keeps-plan}
use Rattle.world.specs.declared.world.World.{World}
use Rattle.world.specs.Standing.{Here, IsWorld, Leads, units_of}
use Rattle.world.specs.Calm.{IsQuiet}
use Rattle.world.specs.Ready.{IsReady, AreDueSet}
use Rattle.world.specs.Happening.{takes_from, happens_from}
use Rattle.world.specs.Runs.{CarriesOut, IsOpen, given_by}
use Rattle.world.proofs.Calm.{Quiets, quiets-irq, quiets-deliver}
use Rattle.world.proofs.Resting.{rests-load, rests-restart, rests-unload, rests-call, rests-run_task, rests-finish, rests-tick, rests-work, rests-kernel, rests-show, rests-restarts_driver}
use Rattle.world.proofs.Due.{Due, Sets, LoadsOnTask, sets-takes, sets-deliver, sets-restarts_driver, least-task}
use Rattle.world.proofs.Rooms.{room-happens}

-- ---- the line

fit-load : (e : Event) → IsFit 2 4 e → LoadsOnTask e
fit-load (event_of.Load driver task n) fit = fit.1
fit-load (event_of.Restart driver task) fit = tt
fit-load (event_of.Unload driver) fit = tt
fit-load (event_of.Call driver task name values n) fit = tt
fit-load (event_of.Run task n) fit = tt
fit-load (event_of.Finish task) fit = tt
fit-load (event_of.Irq line) fit = tt
fit-load (event_of.Tick n) fit = tt
fit-load (event_of.Work n) fit = tt
fit-load (event_of.Answer port first n) fit = tt
fit-load (event_of.Kernel e) fit = tt
fit-load event_of.Show fit = tt

pub rests-takes : (answers : List ℤ) (e : Event) → IsFit 2 4 e → Quiets (takes_from answers e)
rests-takes answers (event_of.Load driver task n) fit = rests-load driver task n fit.1.0
rests-takes answers (event_of.Restart driver task) fit = rests-restart driver task fit.1.0
rests-takes answers (event_of.Unload driver) fit = rests-unload driver
rests-takes answers (event_of.Call driver task name values n) fit = rests-call driver task name (take n values) fit.1.0
rests-takes answers (event_of.Run task n) fit = rests-run_task task n fit.0.0
rests-takes answers (event_of.Finish task) fit = rests-finish task fit.0
rests-takes answers (event_of.Irq line) fit = quiets-irq line
rests-takes answers (event_of.Tick n) fit = rests-tick n
rests-takes answers (event_of.Work n) fit = rests-work n
rests-takes answers (event_of.Answer port first n) fit = record { to = λ s quiet. quiet }
rests-takes answers (event_of.Kernel e) fit = rests-kernel e
rests-takes answers event_of.Show fit = rests-show

pub sets-takes_from : (answers : List ℤ) (e : Event) → IsFit 2 4 e → Sets (takes_from answers e)
sets-takes_from answers (event_of.Load driver task n) fit = sets-takes (event_of.Load driver task n) (fit-load (event_of.Load driver task n) fit)
sets-takes_from answers (event_of.Restart driver task) fit = sets-takes (event_of.Restart driver task) tt
sets-takes_from answers (event_of.Unload driver) fit = sets-takes (event_of.Unload driver) tt
sets-takes_from answers (event_of.Call driver task name values n) fit = sets-takes (event_of.Call driver task name values n) tt
sets-takes_from answers (event_of.Run task n) fit = sets-takes (event_of.Run task n) tt
sets-takes_from answers (event_of.Finish task) fit = sets-takes (event_of.Finish task) tt
sets-takes_from answers (event_of.Irq line) fit = sets-takes (event_of.Irq line) tt
sets-takes_from answers (event_of.Tick n) fit = sets-takes (event_of.Tick n) tt
sets-takes_from answers (event_of.Work n) fit = sets-takes (event_of.Work n) tt
sets-takes_from answers (event_of.Answer port first n) fit = record { to = λ s due. due }
sets-takes_from answers (event_of.Kernel e) fit = sets-takes (event_of.Kernel e) tt
sets-takes_from answers event_of.Show fit = sets-takes event_of.Show tt

-- ---- both that task 0 is idle and that drivers which are due have their tasks

abbrev pub Kept : WorldState → Type 0
Kept s = IsQuiet s × Due s

kept : {f : Script} → Quiets f → Sets f → walk.Leads Kept Kept f
kept quiets sets = record { to = λ s a. (quiets.to s a.0, sets.to s a.1) }

kept-restarts : walk.Leads Kept Kept restarts
unfolding restarts restarts_least
kept-restarts = record {
  to = λ s a. (walk.leads-while {A = Kept} {f = restarts_least} (restarts_left s.run.drivers) has_due_driver (record {
    to = λ w b. (
      (rests-restarts_driver w.run (least_due w.run) (least-task w.run b.0.1 b.1)).to w b.0.0,
      (sets-restarts_driver w.run (least_due w.run)).to w b.0.1,
    );
  })).to s a;
}

pub kept-happens : (answers : List ℤ) (e : Event) → IsFit 2 4 e → walk.Leads Kept Kept (happens_from answers e)
unfolding happens_from unless_over
kept-happens answers e fit = record {
  to = λ s a. (walk.leads-given {A = Kept} {B = Kept} (is_over s.run) (λ o. walk.leads-nothing)
      (λ o. walk.leads-then (kept (rests-takes answers e fit) (sets-takes_from answers e fit))
      (walk.leads-then (kept quiets-deliver sets-deliver) kept-restarts))).to s a;
}

-- the share is the plan's, which stays
pub opens : {units : List CheckedUnit} {a b : Here} {f : Script} → IsReady units a → AreDueSet a.live.ground.run → Leads units a b f
    → walk.Leads Kept Kept f → IsReady units b × AreDueSet b.live.ground.run
opens {units} {a} {b} {f} ready due p keeps =
    let calm = ready.calm in
    let after : IsWorld units b calm.first calm.faults (does f calm.state) = p.to calm.first calm.faults calm.state calm.is in
    let was : AreDueSet calm.state.run = subst AreDueSet calm.is.ground.run due in
    let both_kept = keeps.to calm.state (calm.quiet, was) in
    let shared : b.live.ground.host.kernel.kernel.claims.share ≡ a.live.ground.host.kernel.kernel.claims.share =
    after.ground.host.holders ∙ ap (λ (plan : Plan). plan.share) (keeps-plan f calm.state) ∙ sym calm.is.ground.host.holders in (
      record {
        calm = record { first = calm.first; faults = calm.faults; state = does f calm.state; is = after; quiet = both_kept.0 };
        share = subst (λ n. n ≤ 4) (sym shared) ready.share;
      },
      subst AreDueSet (sym after.ground.run) both_kept.1,
    )

-- ---- where the plan has these answers

same-takes : (answers : List ℤ) (e : Event) (s : WorldState) → s.plan.answers ≡ answers → does (takes_from answers e) s ≡ does (takes e) s
unfolding answer
same-takes answers (event_of.Load driver task n) s is = refl
same-takes answers (event_of.Restart driver task) s is = refl
same-takes answers (event_of.Unload driver) s is = refl
same-takes answers (event_of.Call driver task name values n) s is = refl
same-takes answers (event_of.Run task n) s is = refl
same-takes answers (event_of.Finish task) s is = refl
same-takes answers (event_of.Irq line) s is = refl
same-takes answers (event_of.Tick n) s is = refl
same-takes answers (event_of.Work n) s is = refl
same-takes answers (event_of.Answer port first n) s is = ap (λ vs. does (on_devices (answered port (take n (drop first vs)))) s) (sym is)
same-takes answers (event_of.Kernel e) s is = refl
same-takes answers event_of.Show s is = refl

pub same-happens : (answers : List ℤ) (e : Event) (s : WorldState) → s.plan.answers ≡ answers → does (happens_from answers e) s ≡ does (event e) s
unfolding happens_from event unless_over
same-happens answers e s is = by (is_over s.run)
  where
    by : (over : Bool) → does (given over nothing (takes_from answers e >> deliver >> restarts)) s ≡ does (given over nothing (takes e >> deliver >> restarts)) s
    by true = refl
    by false = ap (λ w. does (deliver >> restarts) w) (same-takes answers e s is)

-- ---- in the caller's world

pub carries-event : (answers : List ℤ) (e : Event) (old new : World) (before now : Out) → new.drivers.list.items ≡ old.drivers.list.items → new.bound ≡ old.bound
    → Leads (units_of old.drivers.list.items) (record { live = old.live; told = before }) (record { live = new.live; told = now }) (happens_from answers e)
    → CarriesOut answers old new before now (event e)
carries-event answers e old new before now drivers bound p = record {
  drivers = drivers;
  bound = bound;
  to = λ first faults s st. record {
    is =
        subst (λ ds. IsWorld (units_of ds) (record { live = new.live; told = now }) first faults (does (event e) s)) (sym drivers)
        (subst (λ w. IsWorld (units_of old.drivers.list.items) (record { live = new.live; told = now }) first faults w) (same-happens answers e s st.gives)
        (p.to first faults s st.is));
    bound = ap (λ (plan : Plan). plan.bound) (keeps-plan (event e) s) ∙ st.bound ∙ sym bound;
    gives = ap (λ (plan : Plan). plan.answers) (keeps-plan (event e) s) ∙ st.gives;
  };
}

pub opens-event : (answers : List ℤ) (e : Event) (old new : World) (before now : Out) → new.drivers.list.items ≡ old.drivers.list.items → IsFit 2 4 e
    → IsOpen old before
    → Leads (units_of old.drivers.list.items) (record { live = old.live; told = before }) (record { live = new.live; told = now }) (happens_from answers e)
    → IsOpen new now
opens-event answers e old new before now drivers fit known p =
    let after = opens known.ready known.due p (kept-happens answers e fit) in
    record {
      ready = subst (λ ds. IsReady (units_of ds) (record { live = new.live; told = now })) (sym drivers) after.0;
      due = after.1;
    }

pub room-event : {units : List CheckedUnit} {a b : Here} (answers : List ℤ) (e : Event) → IsReady units a → Leads units a b (happens_from answers e)
    → a.live.ground.host.devices.room ≤ b.live.ground.host.devices.room + given_by e
room-event {units} {a} {b} answers e ready p =
    let calm = ready.calm in
    let after : IsWorld units b calm.first calm.faults (does (happens_from answers e) calm.state) = p.to calm.first calm.faults calm.state calm.is in
    let was : a.live.ground.host.devices.room ≡ calm.state.devices.room = ap (λ d. d.room) calm.is.ground.host.answers in
    let now : b.live.ground.host.devices.room ≡ (does (happens_from answers e) calm.state).devices.room = ap (λ d. d.room) after.ground.host.answers in
    omega (arith, was, now, room-happens answers e calm.state)
