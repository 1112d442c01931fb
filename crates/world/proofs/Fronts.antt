-- Which timer fires next, and which item of work runs next: both are a driver's.
-- Here: next-timer-over, next-timer, no-timer, a-timer, first-fires; next-work-over, next-work, no-work, a-work, front-works
use Rattle.std.proofs.Common.{◌≡◌, ℕ, ◌≤◌, ◌<◌, Bool, true, false, cond, not, ◌&&◌, ◌||◌, ltb, List, [], ◌∷◌, slice_get, Option, None, Some, is_some, refl, sym, ap, ◌∙◌, subst, arith, true≢false}
use Rattle.std.specs.List.{list_any, filter, filter_map, cons_option}
use Rattle.std.proofs.lemmas.Bool.Decides.{nat_tests}
use Rattle.sd_base.specs.declared.history.Update.{Update}
use Rattle.sd_base.specs.declared.history.Update.TheVariants.{Timer, Work as Queues}
use Rattle.sd_base.specs.Selection.{passes}
use Rattle.sd_base.specs.History.{Entry, History, entry, live_of}
use Rattle.sd_base.specs.Allowed.{IsProper}
use Rattle.sd_base.proofs.Removal.{list_any-filter_none, list_any-reverse}
use Rattle.update_tracker.proofs.Caps.{improper, all_proper}
use Rattle.timer_table.specs.declared.fired.Fired.{Fired}
use Rattle.timer_table.specs.Order.{timer_row_of, timer_row, timers_of, is_due, fires_before, earlier, first_to_fire, next_of}
use Rattle.timer_table.proofs.Sorting.{list_any-by_owner_and_id}
use Rattle.share_table.specs.declared.queue.Work.{Work}
use Rattle.share_table.specs.Queue.{work_row_of, work_row}
use Rattle.share_table.specs.Table.{queue_of}
use Rattle.checked_tree.specs.declared.units.CheckedUnit.{CheckedUnit}
use Rattle.driver_host.specs.declared.ground.Ground.{Ground}
use Rattle.driver_host.specs.Hosting.{Reads}
use Rattle.world_core.specs.WorldState.{WorldState, is_over}
use Rattle.world_core.specs.Script.{Script, does}
use Rattle.world_core.specs.Clock.{due_by, fires, fires_if, fires_first, has_due}
use Rattle.world_core.specs.Inputs.{is_item, works, works_front, works_one, has_work}
use Rattle.world.specs.Standing.{Here, IsWorld, Leads}
use Rattle.world.specs.Going.{Decides}
use Rattle.world.specs.Ready.{IsNextTimer, NextTimer, IsNextWork, NextWork}

-- ---- owners

-- no owner but 1 to 4
abbrev nobody : ℕ → Bool
nobody owner = not (ltb 0 owner && ltb owner 5)

somebody : (owner : ℕ) → nobody owner ≡ false → (0 < owner) × (owner ≤ 4)
somebody owner e = (grind (arith, nat_tests), grind (arith, nat_tests))

left : (a b : Bool) → a || b ≡ false → a ≡ false
left true b e = absurd (true≢false e)
left false b e = refl

right : (a b : Bool) → a || b ≡ false → b ≡ false
right true b e = absurd (true≢false e)
right false b e = e

-- ---- timers

timer-owner : (owner : ℕ) (u : Update) → improper (entry owner u) ≡ false → passes (λ (t : Fired). nobody t.owner) (timer_row_of owner u) ≡ false
timer-owner owner (Timer id due handler arg) e = grind (arith, nat_tests)
timer-owner owner u e = refl

timers-owned : (live : List Entry) → list_any improper live ≡ false → list_any (λ (t : Fired). nobody t.owner) (filter_map timer_row live) ≡ false
timers-owned [] none = refl
timers-owned (e ∷ live) none =
    let one : improper e ≡ false = left (improper e) (list_any improper live) none in
    let more = timers-owned live (right (improper e) (list_any improper live) none) in
    joined (timer_row e) (timer-owner e.owner e.update one) more
  where
    joined : (o : Option Fired) → passes (λ (t : Fired). nobody t.owner) o ≡ false → list_any (λ (t : Fired). nobody t.owner) (filter_map timer_row live) ≡ false
        → list_any (λ (t : Fired). nobody t.owner) (cons_option o (filter_map timer_row live)) ≡ false
    joined None p q = q
    joined (Some x) p q = ap (λ b. b || list_any (λ (t : Fired). nobody t.owner) (filter_map timer_row live)) p ∙ q

of-earlier : (q : Fired → Bool) (x : Fired) (o : Option Fired) → q x ≡ false → passes q o ≡ false → q (earlier x o) ≡ false
of-earlier q x None one more = one
of-earlier q x (Some y) one more = elim (fires_before y x) as (λ b. q (cond b y x) ≡ false) [ true ↦ more | false ↦ one ]

of-first : (q : Fired → Bool) (xs : List Fired) → list_any q xs ≡ false → passes q (first_to_fire xs) ≡ false
of-first q [] none = refl
of-first q (x ∷ xs) none = of-earlier q x (first_to_fire xs) (left (q x) (list_any q xs) none) (of-first q xs (right (q x) (list_any q xs) none))

due-owner : (moment : ℕ) (h : History) → IsProper h → passes (λ (t : Fired). nobody t.owner) (due_by moment h) ≡ false
due-owner moment h proper =
    of-first (λ (t : Fired). nobody t.owner) (filter (is_due moment) (timers_of (live_of h)))
    (list_any-filter_none (is_due moment) (λ (t : Fired). nobody t.owner) (timers_of (live_of h))
    (list_any-by_owner_and_id (λ (t : Fired). nobody t.owner) (filter_map timer_row (live_of h)) ∙ timers-owned (live_of h) (all_proper h proper)))

-- it is due
due-earlier : (moment : ℕ) (x : Fired) (o : Option Fired) → is_due moment x ≡ true → (passes (is_due moment) o ≡ is_some o) → is_due moment (earlier x o) ≡ true
due-earlier moment x None one more = one
due-earlier moment x (Some y) one more = elim (fires_before y x) as (λ b. is_due moment (cond b y x) ≡ true) [ true ↦ more | false ↦ one ]

due-first : (moment : ℕ) (xs : List Fired) → passes (is_due moment) (first_to_fire (filter (is_due moment) xs)) ≡ is_some (first_to_fire (filter (is_due moment) xs))
due-first moment [] = refl
due-first moment (x ∷ xs) = by (is_due moment x) refl (due-first moment xs)
  where
    by : (b : Bool) → is_due moment x ≡ b
        → passes (is_due moment) (first_to_fire (filter (is_due moment) xs)) ≡ is_some (first_to_fire (filter (is_due moment) xs))
        → passes (is_due moment) (first_to_fire (filter (is_due moment) (x ∷ xs))) ≡ is_some (first_to_fire (filter (is_due moment) (x ∷ xs)))
    by true e more =
        subst (λ t. passes (is_due moment) (first_to_fire (cond t (x ∷ filter (is_due moment) xs) (filter (is_due moment) xs)))
        ≡ is_some (first_to_fire (cond t (x ∷ filter (is_due moment) xs) (filter (is_due moment) xs)))) (sym e)
        (due-earlier moment x (first_to_fire (filter (is_due moment) xs)) e more)
    by false e more =
        subst (λ t. passes (is_due moment) (first_to_fire (cond t (x ∷ filter (is_due moment) xs) (filter (is_due moment) xs)))
        ≡ is_some (first_to_fire (cond t (x ∷ filter (is_due moment) xs) (filter (is_due moment) xs)))) (sym e) more

due-is : (moment : ℕ) (h : History) (t : Fired) → Some t ≡ due_by moment h → t.due ≤ moment
due-is moment h t is =
    let found = due-first moment (timers_of (live_of h)) in
    let due : is_due moment t ≡ true = ap (passes (is_due moment)) is ∙ found ∙ ap is_some (sym is) in
    grind (arith, nat_tests)

none-due : (over due : Bool) → over ≡ true → not over && due ≡ false
none-due true due e = refl
none-due false due e = absurd (true≢false (sym e))

goes-due : (over due b : Bool) → over ≡ false → due ≡ b → not over && due ≡ b
goes-due true due b o d = absurd (true≢false o)
goes-due false due b o d = d

pub next-timer-over : (ground : Ground) (moment : ℕ) → is_over ground.run ≡ true → NextTimer ground moment None
next-timer-over ground moment over = record {
  to = λ o first faults s is.
      none-due (is_over s.run) (is_some (due_by moment s.history)) (ap is_over (sym is.run) ∙ over);
}

next-timer-in : (ground : Ground) (moment : ℕ) (timer : Option Fired) (s : WorldState) → is_over s.run ≡ false → IsProper s.history
    → timer ≡ due_by moment s.history → IsNextTimer moment s timer
next-timer-in ground moment None s goes proper is = goes-due (is_over s.run) (is_some (due_by moment s.history)) false goes (ap is_some (sym is))
next-timer-in ground moment (Some t) s goes proper is = (
  goes-due (is_over s.run) (is_some (due_by moment s.history)) true goes (ap is_some (sym is)),
  sym is,
  (somebody t.owner (ap (passes (λ (t : Fired). nobody t.owner)) is ∙ due-owner moment s.history proper)).0,
  (somebody t.owner (ap (passes (λ (t : Fired). nobody t.owner)) is ∙ due-owner moment s.history proper)).1,
  due-is moment s.history t is,
)

pub next-timer : (ground : Ground) (moment : ℕ) (timer : Option Fired) → is_over ground.run ≡ false
    → Reads ground.host (λ h. timer ≡ next_of moment (timers_of (live_of h))) → NextTimer ground moment timer
next-timer ground moment timer goes reads = record {
  to = λ o first faults s is.
      next-timer-in ground moment timer s (ap is_over (sym is.run) ∙ goes) is.host.proper
      (reads.to s.plan.share s.history s.memories s.devices is.host);
}

pub no-timer : (units : List CheckedUnit) (a : Here) (moment : ℕ) → NextTimer a.live.ground moment None → Decides units a (has_due moment) false
no-timer units a moment next = record { to = λ first faults s w. next.to a.told first faults s w.ground }

pub a-timer : (units : List CheckedUnit) (a : Here) (moment : ℕ) (t : Fired) → NextTimer a.live.ground moment (Some t) → Decides units a (has_due moment) true
a-timer units a moment t next = record { to = λ first faults s w. (next.to a.told first faults s w.ground).0 }

pub first-fires : (units : List CheckedUnit) (a b : Here) (moment : ℕ) (t : Fired) → NextTimer a.live.ground moment (Some t) → Leads units a b (fires t)
    → Leads units a b (fires_first moment)
unfolding fires_first
first-fires units a b moment t next p = record {
  to = λ first faults s w.
      let found : due_by moment s.history ≡ Some t = (next.to a.told first faults s w.ground).1 in
      subst (λ x. IsWorld units b first faults (does (fires_if x) s)) (sym found) (p.to first faults s w);
}

-- ---- work

work-owner : (owner : ℕ) (u : Update) → improper (entry owner u) ≡ false → passes (λ (w : Work). nobody w.owner) (work_row_of owner u) ≡ false
work-owner owner (Queues handler arg) e = grind (arith, nat_tests)
work-owner owner u e = refl

work-owned : (live : List Entry) → list_any improper live ≡ false → list_any (λ (w : Work). nobody w.owner) (filter_map work_row live) ≡ false
work-owned [] none = refl
work-owned (e ∷ live) none =
    let one : improper e ≡ false = left (improper e) (list_any improper live) none in
    let more = work-owned live (right (improper e) (list_any improper live) none) in
    joined (work_row e) (work-owner e.owner e.update one) more
  where
    joined : (o : Option Work) → passes (λ (w : Work). nobody w.owner) o ≡ false → list_any (λ (w : Work). nobody w.owner) (filter_map work_row live) ≡ false
        → list_any (λ (w : Work). nobody w.owner) (cons_option o (filter_map work_row live)) ≡ false
    joined None p q = q
    joined (Some x) p q = ap (λ b. b || list_any (λ (w : Work). nobody w.owner) (filter_map work_row live)) p ∙ q

of-front : (q : Work → Bool) (xs : List Work) → list_any q xs ≡ false → passes q (slice_get xs 0) ≡ false
of-front q [] none = refl
of-front q (x ∷ xs) none = left (q x) (list_any q xs) none

front-owner : (h : History) → IsProper h → passes (λ (w : Work). nobody w.owner) (slice_get (queue_of h) 0) ≡ false
front-owner h proper =
    of-front (λ (w : Work). nobody w.owner) (queue_of h)
    (list_any-reverse (λ (w : Work). nobody w.owner) (filter_map work_row (live_of h)) ∙ work-owned (live_of h) (all_proper h proper))

item-is : (xs : List Work) → is_item xs ≡ is_some (slice_get xs 0)
item-is [] = refl
item-is (x ∷ xs) = refl

pub next-work-over : (ground : Ground) → is_over ground.run ≡ true → NextWork ground None
next-work-over ground over = record {
  to = λ o first faults s is.
      none-due (is_over s.run) (is_item (queue_of s.history)) (ap is_over (sym is.run) ∙ over);
}

next-work-in : (work : Option Work) (s : WorldState) → is_over s.run ≡ false → IsProper s.history → work ≡ slice_get (queue_of s.history) 0 → IsNextWork s work
next-work-in None s goes proper is = goes-due (is_over s.run) (is_item (queue_of s.history)) false goes (item-is (queue_of s.history) ∙ ap is_some (sym is))
next-work-in (Some w) s goes proper is = (
  goes-due (is_over s.run) (is_item (queue_of s.history)) true goes (item-is (queue_of s.history) ∙ ap is_some (sym is)),
  sym is,
  (somebody w.owner (ap (passes (λ (w : Work). nobody w.owner)) is ∙ front-owner s.history proper)).0,
  (somebody w.owner (ap (passes (λ (w : Work). nobody w.owner)) is ∙ front-owner s.history proper)).1,
)

pub next-work : (ground : Ground) (work : Option Work) → is_over ground.run ≡ false → Reads ground.host (λ h. work ≡ slice_get (queue_of h) 0)
    → NextWork ground work
next-work ground work goes reads = record {
  to = λ o first faults s is.
      next-work-in work s (ap is_over (sym is.run) ∙ goes) is.host.proper (reads.to s.plan.share s.history s.memories s.devices is.host);
}

pub no-work : (units : List CheckedUnit) (a : Here) → NextWork a.live.ground None → Decides units a has_work false
no-work units a next = record { to = λ first faults s w. next.to a.told first faults s w.ground }

pub a-work : (units : List CheckedUnit) (a : Here) (item : Work) → NextWork a.live.ground (Some item) → Decides units a has_work true
a-work units a item next = record { to = λ first faults s w. (next.to a.told first faults s w.ground).0 }

front-is : (xs : List Work) (w : Work) → slice_get xs 0 ≡ Some w → works_front xs ≡ works w
front-is [] w e = absurd cc
front-is (x ∷ xs) w e = ap (λ o. elim o as (λ y. Script) [ None ↦ works x | Some y ↦ works y ]) e

pub front-works : (units : List CheckedUnit) (a b : Here) (item : Work) → NextWork a.live.ground (Some item) → Leads units a b (works item)
    → Leads units a b works_one
unfolding works_one
front-works units a b item next p = record {
  to = λ first faults s w.
      let found = front-is (queue_of s.history) item (next.to a.told first faults s w.ground).1 in
      subst (λ x. IsWorld units b first faults (does x s)) (sym found) (p.to first faults s w);
}
