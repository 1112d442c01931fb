-- The events of a scenario one after another, and the last line.
-- Here: fit-wider, all-wider, carries-then, EventsLeft, left-start, next-fits, next-names, next-room, left-next, left-done, carries-end, carries-whole, few-drivers
use Rattle.std.proofs.Common.{◌≡◌, ℕ, ◌+◌, ◌-◌, ◌≤◌, ◌<◌, Bool, true, false, cond, eqb, List, [], ◌∷◌, drop, get_or, length, ℤ, refl, sym, ap, ◌∙◌, subst, arith}
use Rattle.std.proofs.lemmas.List.{at_drop_more, at_drop_all, length-map}
use Rattle.safe_code.specs.Drivers.{Driver}
use Rattle.scenario.specs.declared.event.Event.{Event}
use Rattle.scenario.specs.declared.event.Event.TheVariants as event_of
use Rattle.scenario.specs.Fits.{most_restarts, IsFit, AllFit, AnswersFollow}
use Rattle.run_report.specs.declared.item.Item.{Item}
use Rattle.driver_host.specs.Printing.{Out}
use Rattle.world_core.specs.declared.run_state.RunState.{RunState}
use Rattle.world_core.specs.Script.{Script, nothing, say, both, does}
use Rattle.world_core.specs.Events.{event, events, end_item, ends, whole}
use Rattle.world.specs.declared.world.World.{World}
use Rattle.world.specs.Standing.{IsWorld, Leads, units_of}
use Rattle.world.specs.Runs.{CarriesOut, IsOpen, room_of, given_by, NamesAnswers}

-- ---- what fits a scenario's version and its drivers fits the widest

few-restarts : (version n : ℕ) → n ≤ most_restarts version → n ≤ 100
few-restarts version n few = by (eqb version 2) few
  where
    by : (b : Bool) → n ≤ cond b 100 0 → n ≤ 100
    by true e = e
    by false e = omega (arith, e)

pub fit-wider : (version drivers : ℕ) (e : Event) → drivers ≤ 4 → IsFit version drivers e → IsFit 2 4 e
fit-wider version drivers (event_of.Load driver task n) few fit = ((fit.0.0, omega (arith, fit.0.1)), fit.1, few-restarts version n fit.2)
fit-wider version drivers (event_of.Restart driver task) few fit = ((fit.0.0, omega (arith, fit.0.1)), fit.1)
fit-wider version drivers (event_of.Unload driver) few fit = (fit.0, omega (arith, fit.1))
fit-wider version drivers (event_of.Call driver task name values n) few fit = ((fit.0.0, omega (arith, fit.0.1)), fit.1, fit.2)
fit-wider version drivers (event_of.Run task n) few fit = fit
fit-wider version drivers (event_of.Finish task) few fit = fit
fit-wider version drivers (event_of.Irq line) few fit = fit
fit-wider version drivers (event_of.Tick n) few fit = fit
fit-wider version drivers (event_of.Work n) few fit = fit
fit-wider version drivers (event_of.Answer port first n) few fit = fit
fit-wider version drivers (event_of.Kernel e) few fit = tt
fit-wider version drivers event_of.Show few fit = tt

pub all-wider : (version drivers : ℕ) (es : List Event) → drivers ≤ 4 → AllFit version drivers es → AllFit 2 4 es
all-wider version drivers [] few fits = tt
all-wider version drivers (e ∷ es) few fits = (fit-wider version drivers e few fits.0, all-wider version drivers es few fits.1)

-- ---- the ranges of answers

follows-tail : (k : ℕ) (e : Event) (es : List Event) (end : ℕ) → AnswersFollow k (e ∷ es) end → AnswersFollow (k + given_by e) es end
follows-tail k (event_of.Answer port first n) es end f = f.1
follows-tail k (event_of.Load driver task n) es end f = subst (λ m. AnswersFollow m es end) (omega arith) f
follows-tail k (event_of.Restart driver task) es end f = subst (λ m. AnswersFollow m es end) (omega arith) f
follows-tail k (event_of.Unload driver) es end f = subst (λ m. AnswersFollow m es end) (omega arith) f
follows-tail k (event_of.Call driver task name values n) es end f = subst (λ m. AnswersFollow m es end) (omega arith) f
follows-tail k (event_of.Run task n) es end f = subst (λ m. AnswersFollow m es end) (omega arith) f
follows-tail k (event_of.Finish task) es end f = subst (λ m. AnswersFollow m es end) (omega arith) f
follows-tail k (event_of.Irq line) es end f = subst (λ m. AnswersFollow m es end) (omega arith) f
follows-tail k (event_of.Tick n) es end f = subst (λ m. AnswersFollow m es end) (omega arith) f
follows-tail k (event_of.Work n) es end f = subst (λ m. AnswersFollow m es end) (omega arith) f
follows-tail k (event_of.Kernel e) es end f = subst (λ m. AnswersFollow m es end) (omega arith) f
follows-tail k event_of.Show es end f = subst (λ m. AnswersFollow m es end) (omega arith) f

follows-le : (k : ℕ) (es : List Event) (end : ℕ) → AnswersFollow k es end → k ≤ end
follows-le k [] end f = omega (arith, f)
follows-le k (e ∷ es) end f = omega (arith, follows-le (k + given_by e) es end (follows-tail k e es end f))

names-first : (k : ℕ) (e : Event) (es : List Event) (end : ℕ) → AnswersFollow k (e ∷ es) end → NamesAnswers end e
names-first k (event_of.Answer port first n) es end f = omega (arith, f.0, follows-le (k + n) es end f.1)
names-first k (event_of.Load driver task n) es end f = tt
names-first k (event_of.Restart driver task) es end f = tt
names-first k (event_of.Unload driver) es end f = tt
names-first k (event_of.Call driver task name values n) es end f = tt
names-first k (event_of.Run task n) es end f = tt
names-first k (event_of.Finish task) es end f = tt
names-first k (event_of.Irq line) es end f = tt
names-first k (event_of.Tick n) es end f = tt
names-first k (event_of.Work n) es end f = tt
names-first k (event_of.Kernel e) es end f = tt
names-first k event_of.Show es end f = tt

-- ---- one after another

pub carries-nothing : (answers : List ℤ) (world : World) (o : Out) → CarriesOut answers world world o o nothing
carries-nothing answers world o = record { drivers = refl; bound = refl; to = λ first faults s st. st }

pub carries-then : {answers : List ℤ} {a b c : World} {x y z : Out} {f g : Script} → CarriesOut answers a b x y f → CarriesOut answers b c y z g
    → CarriesOut answers a c x z (both f g)
carries-then {f} p q = record {
  drivers = q.drivers ∙ p.drivers;
  bound = q.bound ∙ p.bound;
  to = λ first faults s st. q.to first faults (does f s) (p.to first faults s st);
}

-- of all events these are left
pub record EventsLeft (answers : List ℤ) (start now : World) (before o : Out) (all rest : List Event) : Type 0 where
  pub going : (end : World) (p : Out) → CarriesOut answers now end o p (events rest) → CarriesOut answers start end before p (events all)
  pub opens : IsOpen now o
  pub fits : AllFit 2 4 rest
  pub given : ℕ
  pub follows : AnswersFollow given rest (length answers)
  pub room : length answers ≤ given + room_of now

pub left-start : (answers : List ℤ) (start : World) (before : Out) (all : List Event) → IsOpen start before → AllFit 2 4 all
    → AnswersFollow 0 all (length answers) → length answers ≤ room_of start → EventsLeft answers start start before before all all
left-start answers start before all known fits follows room = record {
  going = λ end p carries. carries;
  opens = known;
  fits = fits;
  given = 0;
  follows = follows;
  room = omega (arith, room);
}

-- the event at a place is the first of those that are left
opened : {answers : List ℤ} {start now : World} {before o : Out} (all : List Event) (i : ℕ) (x : Event) → i < length all → x ≡ get_or all i x
    → EventsLeft answers start now before o all (drop i all) → EventsLeft answers start now before o all (x ∷ drop (i + 1) all)
opened {answers} {start} {now} {before} {o} all i x inside is left =
    subst (λ rest. EventsLeft answers start now before o all rest)
    (at_drop_more (λ rest. rest) all i x inside ∙ ap (λ (e : Event). e ∷ drop (i + 1) all) (sym is)) left

pub next-fits : {answers : List ℤ} {start now : World} {before o : Out} (all : List Event) (i : ℕ) (x : Event) → i < length all → x ≡ get_or all i x
    → EventsLeft answers start now before o all (drop i all) → IsFit 2 4 x
next-fits all i x inside is left = (opened all i x inside is left).fits.0

pub next-names : {answers : List ℤ} {start now : World} {before o : Out} (all : List Event) (i : ℕ) (x : Event) → i < length all → x ≡ get_or all i x
    → EventsLeft answers start now before o all (drop i all) → NamesAnswers (length answers) x
next-names {answers} all i x inside is left =
    let here = opened all i x inside is left in
    names-first here.given x (drop (i + 1) all) (length answers) here.follows

pub next-room : {answers : List ℤ} {start now : World} {before o : Out} (all : List Event) (i : ℕ) (x : Event) → i < length all → x ≡ get_or all i x
    → EventsLeft answers start now before o all (drop i all) → given_by x ≤ room_of now
next-room {answers} all i x inside is left =
    let here = opened all i x inside is left in
    let more = follows-le (here.given + given_by x) (drop (i + 1) all) (length answers)
    (follows-tail here.given x (drop (i + 1) all) (length answers) here.follows) in
    omega (arith, more, here.room)

pub left-next : {answers : List ℤ} {start now next : World} {before o p : Out} (all : List Event) (i : ℕ) (x : Event) → i < length all → x ≡ get_or all i x
    → EventsLeft answers start now before o all (drop i all) → CarriesOut answers now next o p (event x) → IsOpen next p
    → room_of now ≤ room_of next + given_by x → EventsLeft answers start next before p all (drop (i + 1) all)
left-next {answers} all i x inside is left carries known room =
    let here = opened all i x inside is left in
    record {
      going = λ end q more. here.going end q (carries-then carries more);
      opens = known;
      fits = here.fits.1;
      given = here.given + given_by x;
      follows = follows-tail here.given x (drop (i + 1) all) (length answers) here.follows;
      room = omega (arith, here.room, room);
    }

pub left-done : {answers : List ℤ} {start now : World} {before o : Out} (all : List Event) (i : ℕ) → length all ≤ i
    → EventsLeft answers start now before o all (drop i all) → CarriesOut answers start now before o (events all)
left-done {answers} {start} {now} {before} {o} all i past left =
    let none = subst (λ rest. EventsLeft answers start now before o all rest) (at_drop_all (λ rest. rest) all i past) left in
    none.going now o (carries-nothing answers now o)

-- ---- the last line

pub carries-end : (answers : List ℤ) (old new : World) (before now : Out) (x : Item) → new.drivers.list.items ≡ old.drivers.list.items
    → new.bound ≡ old.bound → x ≡ end_item old.live.ground.run.is_stopped (old.bound - old.live.ground.run.left)
    → Leads (units_of old.drivers.list.items) (record { live = old.live; told = before }) (record { live = new.live; told = now }) (say x)
    → CarriesOut answers old new before now ends
unfolding ends
carries-end answers old new before now x drivers bound is p = record {
  drivers = drivers;
  bound = bound;
  to = λ first faults s st.
      let last : end_item s.run.is_stopped (s.plan.bound - s.run.left) ≡ x =
      ap (λ (r : RunState). end_item r.is_stopped (s.plan.bound - r.left)) (sym st.is.ground.run)
      ∙ ap (λ b. end_item old.live.ground.run.is_stopped (b - old.live.ground.run.left)) st.bound ∙ sym is in
      record {
        is = subst (λ ds. IsWorld (units_of ds) (record { live = new.live; told = now }) first faults (does ends s)) (sym drivers)
            (subst (λ y. IsWorld (units_of old.drivers.list.items) (record { live = new.live; told = now }) first faults (does (say y) s)) (sym last)
            (p.to first faults s st.is));
        bound = st.bound ∙ sym bound;
        gives = st.gives;
      };
}

-- all events, and the last line
pub carries-whole : {vs ws : List ℤ} {es fs : List Event} {a b : World} {x y : Out} → vs ≡ ws → es ≡ fs
    → CarriesOut vs a b x y (both (events es) ends) → CarriesOut ws a b x y (whole fs)
carries-whole {ws} {es} {a} {b} {x} {y} values is p =
    subst (λ gs. CarriesOut ws a b x y (whole gs)) is (subst (λ us. CarriesOut us a b x y (whole es)) values p)

-- ---- the drivers

pub few-drivers : (world : World) (o : Out) → IsOpen world o → length world.drivers.list.items ≤ 4
few-drivers world o known =
    let same : length (units_of world.drivers.list.items) ≡ length world.drivers.list.items = length-map world.drivers.list.items (λ (d : Driver). d.unit) in
    omega (arith, same, known.ready.calm.is.few)
