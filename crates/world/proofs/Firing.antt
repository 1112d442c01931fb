-- A timer fires, an item of work runs, and a driver is started anew: each part in turn, and that the next part may take place.
-- Here: with_host, updates-made, timer-facts, fires-by, fired-calm, fired-goes, fired-ready; work-facts, works-by, taken-calm, taken-goes,
-- taken-ready; clock-set, ticks, tick-declined; restarted-by
use Rattle.std.proofs.Common.{◌≡◌, ℕ, zero, suc, ◌+◌, ◌≤◌, ◌<◌, Bool, true, false, not, ◌&&◌, ltb, List, ℤ, Option, Some, refl, sym, ap, ◌∙◌, arith, true≢false}
use Rattle.sd_base.specs.declared.history.Refusal.{Refusal}
use Rattle.sd_base.specs.declared.history.Update.{Update}
use Rattle.sd_base.specs.declared.history.Update.TheVariants as update
use Rattle.sd_base.specs.History.{clock_of}
use Rattle.sd_base.specs.Allowed.{is_proper}
use Rattle.timer_table.specs.declared.fired.Fired.{Fired}
use Rattle.share_table.specs.declared.queue.Work.{Work}
use Rattle.checked_tree.specs.declared.units.CheckedUnit.{CheckedUnit}
use Rattle.run_report.specs.declared.item.Item.TheVariants as item
use Rattle.driver_host.specs.declared.host.Host.{Host}
use Rattle.driver_host.specs.Hosting.{Updates, Reads}
use Rattle.world_core.specs.declared.run_state.RunState.{RunState}
use Rattle.world_core.specs.WorldState.{is_over, driver_of}
use Rattle.world_core.specs.Script.{say, updates, on_run, both, given, unless_over}
use Rattle.world_core.specs.Clock.{fires, ticks_to, tick}
use Rattle.world_core.specs.Inputs.{works}
use Rattle.world_core.specs.Handling.{handles}
use Rattle.world_core.specs.Delivering.{deliver}
use Rattle.world_core.specs.Loading.{restart}
use Rattle.world_core.specs.Restarting.{one_restart_used, restarts_driver}
use Rattle.world_core.proofs.Leading as walk
use Rattle.world.specs.Standing.{Here, Leads}
use Rattle.world.specs.Calm.{IsCalm}
use Rattle.world.specs.Ready.{IsReady, NextTimer, NextWork}
use Rattle.world.proofs.Standing.{leads-then, leads-is, leads-yes, leads-no}
use Rattle.world.proofs.Composing.{leads-updates, leads-by_history, leads-unless_over}
use Rattle.world.proofs.Calm.{Quiets, calm-good, calm-after, quiets-handles}
use Rattle.world.proofs.Lines.{ready-after}
use Rattle.world.proofs.Resting.{rests-say, rests-updates}
use Rattle.world.proofs.Turns.{run-kept}

-- ---- an update

abbrev pub with_host : Here → Host → Here
with_host a host = record {
  live = record { ground = record { run = a.live.ground.run; host = host; is_silent = a.live.ground.is_silent }; machine = a.live.machine };
  told = a.told;
}

pub updates-made : {units : List CheckedUnit} (a : Here) (owner : ℕ) (u : Update) (host : Host) (answer : Option Refusal)
    → Updates a.live.ground.host owner u answer host → Leads units a (with_host a host) (updates owner u)
updates-made {units} a owner u host answer made = leads-updates units a (with_host a host) owner u answer made refl refl refl

on-of : (over due : Bool) → not over && due ≡ true → over ≡ false
on-of true due e = absurd (true≢false (sym e))
on-of false due e = refl

-- ---- a timer

pub timer-facts : {units : List CheckedUnit} {a : Here} (moment : ℕ) (t : Fired) → IsCalm units a → NextTimer a.live.ground moment (Some t)
    → (is_over a.live.ground.run ≡ false) × (0 < t.owner) × (t.owner ≤ 4) × (t.due ≤ moment)
timer-facts {a} moment t calm next =
    let here = next.to a.told calm.first calm.faults calm.state calm.is.ground in
    (ap is_over calm.is.ground.run ∙ on-of (is_over calm.state.run) _ here.0, here.2, here.3, here.4)

pub fired-proper : (owner : ℕ) (id : ℤ) → 0 < owner → owner ≤ 4 → is_proper owner (update.Fired id) ≡ true
fired-proper zero id some few = absurd (omega arith)
fired-proper (suc zero) id some few = refl
fired-proper (suc (suc zero)) id some few = refl
fired-proper (suc (suc (suc zero))) id some few = refl
fired-proper (suc (suc (suc (suc zero)))) id some few = refl
fired-proper (suc (suc (suc (suc (suc k))))) id some few = absurd (omega arith)

module _ {units : List CheckedUnit} {a b : Here} (t : Fired) (clock fired : Host) (r r' : Option Refusal)
    (p : Updates a.live.ground.host 0 (update.Clock t.due) r clock) (q : Updates clock t.owner (update.Fired t.id) r' fired)
    (told : Leads units (with_host a fired) b (say (item.Timer t.owner t.id)))
  where
    told-all : Leads units a b (both (updates 0 (update.Clock t.due)) (both (updates t.owner (update.Fired t.id)) (say (item.Timer t.owner t.id))))
    told-all = leads-then (updates-made a 0 (update.Clock t.due) clock r p)
        (leads-then (updates-made (with_host a clock) t.owner (update.Fired t.id) fired r' q) told)

    told-quiet : Quiets (both (updates 0 (update.Clock t.due)) (both (updates t.owner (update.Fired t.id)) (say (item.Timer t.owner t.id))))
    told-quiet = walk.leads-then (rests-updates 0 _) (walk.leads-then (rests-updates t.owner _) (rests-say _))

    pub fired-calm : IsCalm units a → IsCalm units b
    fired-calm calm = calm-after calm told-all told-quiet

    pub fired-goes : IsCalm units a → is_over a.live.ground.run ≡ false → is_over b.live.ground.run ≡ false
    fired-goes calm goes = ap is_over (run-kept (calm-good calm) told-all (λ s. refl)) ∙ goes

    pub fired-ready : {c : Here} → IsReady units a → Leads units b c (handles t.owner t.handler t.arg) → IsReady units c
    fired-ready ready handled = ready-after (ready-after ready told-all told-quiet) handled (quiets-handles t.owner t.handler t.arg)

    pub fires-by : {c d : Here} → Leads units b c (handles t.owner t.handler t.arg) → Leads units c d deliver → Leads units a d (fires t)
    unfolding fires
    fires-by handled delivered = leads-then (updates-made a 0 (update.Clock t.due) clock r p)
        (leads-then (updates-made (with_host a clock) t.owner (update.Fired t.id) fired r' q) (leads-then told (leads-then handled delivered)))

-- ---- work

pub work-facts : {units : List CheckedUnit} {a : Here} (w : Work) → IsCalm units a → NextWork a.live.ground (Some w)
    → (is_over a.live.ground.run ≡ false) × (0 < w.owner) × (w.owner ≤ 4)
work-facts {a} w calm next =
    let here = next.to a.told calm.first calm.faults calm.state calm.is.ground in
    (ap is_over calm.is.ground.run ∙ on-of (is_over calm.state.run) _ here.0, here.2, here.3)

pub taken-proper : (owner : ℕ) → 0 < owner → owner ≤ 4 → is_proper owner update.Taken ≡ true
taken-proper zero some few = absurd (omega arith)
taken-proper (suc zero) some few = refl
taken-proper (suc (suc zero)) some few = refl
taken-proper (suc (suc (suc zero))) some few = refl
taken-proper (suc (suc (suc (suc zero)))) some few = refl
taken-proper (suc (suc (suc (suc (suc k))))) some few = absurd (omega arith)

module _ {units : List CheckedUnit} {a b : Here} (w : Work) (taken : Host) (r : Option Refusal)
    (p : Updates a.live.ground.host w.owner update.Taken r taken) (told : Leads units (with_host a taken) b (say (item.Work w.owner)))
  where
    took-all : Leads units a b (both (updates w.owner update.Taken) (say (item.Work w.owner)))
    took-all = leads-then (updates-made a w.owner update.Taken taken r p) told

    took-quiet : Quiets (both (updates w.owner update.Taken) (say (item.Work w.owner)))
    took-quiet = walk.leads-then (rests-updates w.owner _) (rests-say _)

    pub taken-calm : IsCalm units a → IsCalm units b
    taken-calm calm = calm-after calm took-all took-quiet

    pub taken-goes : IsCalm units a → is_over a.live.ground.run ≡ false → is_over b.live.ground.run ≡ false
    taken-goes calm goes = ap is_over (run-kept (calm-good calm) took-all (λ s. refl)) ∙ goes

    pub taken-ready : {c : Here} → IsReady units a → Leads units b c (handles w.owner w.handler w.arg) → IsReady units c
    taken-ready ready handled = ready-after (ready-after ready took-all took-quiet) handled (quiets-handles w.owner w.handler w.arg)

    pub works-by : {c d : Here} → Leads units b c (handles w.owner w.handler w.arg) → Leads units c d deliver → Leads units a d (works w)
    unfolding works
    works-by handled delivered = leads-then (updates-made a w.owner update.Taken taken r p) (leads-then told (leads-then handled delivered))

-- ---- a tick

pub clock-set : {units : List CheckedUnit} (a : Here) (moment : ℕ) (host : Host) (r : Option Refusal) → is_over a.live.ground.run ≡ false
    → Updates a.live.ground.host 0 (update.Clock moment) r host → Leads units a (with_host a host) (unless_over (updates 0 (update.Clock moment)))
clock-set a moment host r goes p = leads-unless_over (updates 0 (update.Clock moment)) goes (updates-made a 0 (update.Clock moment) host r p)

pub tick-declined : {units : List CheckedUnit} {a b : Here} (n clock : ℕ) → Reads a.live.ground.host (λ h. clock ≡ clock_of h)
    → ltb 2000000000 (clock + n) ≡ true → Leads units a b (say item.TickRefused) → Leads units a b (tick n)
unfolding tick
tick-declined {units} {a} {b} n clock reads far p = leads-by_history (λ h. given (ltb 2000000000 (clock_of h + n)) (say item.TickRefused) (ticks_to (clock_of h + n)))
    (given (ltb 2000000000 (clock + n)) (say item.TickRefused) (ticks_to (clock + n)))
    (record {
      to = λ share h m d is.
          ap (λ k. given (ltb 2000000000 (k + n)) (say item.TickRefused) (ticks_to (k + n))) (reads.to share h m d is);
    })
    (leads-yes (ltb 2000000000 (clock + n)) far p)

pub ticks : {units : List CheckedUnit} {a b : Here} (n clock moment : ℕ) → Reads a.live.ground.host (λ h. clock ≡ clock_of h)
    → ltb 2000000000 (clock + n) ≡ false → moment ≡ clock + n → Leads units a b (ticks_to moment) → Leads units a b (tick n)
unfolding tick
ticks {units} {a} {b} n clock moment reads near same p = leads-by_history (λ h. given (ltb 2000000000 (clock_of h + n)) (say item.TickRefused) (ticks_to (clock_of h + n)))
    (given (ltb 2000000000 (clock + n)) (say item.TickRefused) (ticks_to (clock + n)))
    (record {
      to = λ share h m d is.
          ap (λ k. given (ltb 2000000000 (k + n)) (say item.TickRefused) (ticks_to (k + n))) (reads.to share h m d is);
    })
    (leads-no (ltb 2000000000 (clock + n)) near (leads-is (ap ticks_to same) p))

-- ---- a restart

pub restarted-by : {units : List CheckedUnit} {a b c d : Here} (x : RunState) (driver task : ℕ) → task ≡ (driver_of x driver).task
    → Leads units a b (on_run (one_restart_used driver)) → Leads units b c (restart driver task) → Leads units c d deliver
    → Leads units a d (restarts_driver x driver)
restarted-by x driver task is used again delivered = leads-then used (leads-then (leads-is (ap (restart driver) is) again) delivered)
