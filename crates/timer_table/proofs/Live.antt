-- The timers of a history, after one more update and without what an owner put there.
use Rattle.std.proofs.Common.{◌≡◌, ℕ, false, cond, not, ◌||◌, eqb, ltb, List, ℤ, Option, Some, None, refl, ap, sym, ◌∙◌, arith}
use Rattle.std.specs.Prelude.{count_by}
use Rattle.std.specs.List.{list_any, filter_map}
use Rattle.sd_base.specs.declared.history.Update.{Update}
use Rattle.sd_base.specs.declared.history.Update.TheVariants.{Timer, DelTimer, Fired as Fires}
use Rattle.sd_base.specs.declared.history.Refusal.{Refusal}
use Rattle.sd_base.specs.declared.history.Refusal.TheVariants.{Bad, Full}
use Rattle.sd_base.specs.Selection.{without_first, is_below, passes}
use Rattle.sd_base.specs.History.{Entry, OfTimers, Key, same_resource, key_of, timer_key, live_key, entry, is_owner, is_of, is_of_kind, after_entry, live_of}
use Rattle.sd_base.specs.Part.{Serves, Loses}
use Rattle.sd_base.proofs.Rows.{filter_map-without_first, list_any-filter_map, count_by-filter_map}
use Rattle.sd_base.proofs.Live.{rows-after_entry_other, rows-without_other}
use Rattle.timer_table.specs.declared.fired.Fired.{Fired}
use Rattle.timer_table.specs.Order.{is_timer, is_owner's, insert_row, by_owner_and_id, timer_row_of, timer_row, timers_of}
use Rattle.timer_table.specs.Table.{HoldsTimers, set_refusal, del_refusal, with_timer, without_timer}
use Rattle.timer_table.proofs.Sorting.{list_any-by_owner_and_id, count_by-by_owner_and_id, by_owner_and_id-without_first}

same_of : (owner : ℕ) (id : ℤ) (by : ℕ) (u : Update) → is_of owner (timer_key id) (entry by u) ≡ passes (is_timer owner id) (timer_row_of by u)
same_of owner id by (Timer i due handler arg) = grind arith
same_of owner id by _ = refl

-- an entry is live under a timer's key exactly where its row is that timer
pub same : (owner : ℕ) (id : ℤ) (e : Entry) → is_of owner (timer_key id) e ≡ passes (is_timer owner id) (timer_row e)
same owner id e = same_of owner id e.owner e.update

own_of : (owner by : ℕ) (u : Update) → is_of_kind owner OfTimers (entry by u) ≡ passes (is_owner's owner) (timer_row_of by u)
own_of owner by (Timer i due handler arg) = refl
own_of owner by _ = refl

-- an entry is an owner's timer exactly where its row is
own : (owner : ℕ) (e : Entry) → is_of_kind owner OfTimers e ≡ passes (is_owner's owner) (timer_row e)
own owner e = own_of owner e.owner e.update

none_of : (by : ℕ) (u : Update) → same_resource (live_key u).resource OfTimers ≡ false → timer_row_of by u ≡ None
none_of by (Timer i due handler arg) h = cc
none_of by _ h = refl

-- an entry of another kind has no row
none : (e : Entry) → same_resource (live_key e.update).resource OfTimers ≡ false → timer_row e ≡ None
none e h = none_of e.owner e.update h

kept_of : (owner by : ℕ) (u : Update) (row : Fired) → timer_row_of by u ≡ Some row → not (is_owner owner (entry by u)) ≡ not (is_owner's owner row)
kept_of owner by (Timer i due handler arg) row h = (let at : by ≡ row.owner = ap (λ (r : Option Fired). elim r as (λ _. ℕ) [ None ↦ 0 | Some x ↦ x.owner ]) h in ap (λ n. not (eqb n owner)) at)
kept_of owner by _ row h = cc

kept : (owner : ℕ) (e : Entry) (row : Fired) → timer_row e ≡ Some row → not (is_owner owner e) ≡ not (is_owner's owner row)
kept owner e row h = kept_of owner e.owner e.update row h

-- The timers of what is live.

pub timers-any : (owner : ℕ) (id : ℤ) (live : List Entry) → list_any (is_of owner (timer_key id)) live ≡ list_any (is_timer owner id) (timers_of live)
timers-any owner id live =
    sym (list_any-filter_map timer_row (is_of owner (timer_key id)) (is_timer owner id) (same owner id) live)
    ∙ sym (list_any-by_owner_and_id (is_timer owner id) (filter_map timer_row live))

pub timers-count : (owner : ℕ) (live : List Entry) → count_by (is_of_kind owner OfTimers) live ≡ count_by (is_owner's owner) (timers_of live)
timers-count owner live =
    sym (count_by-filter_map timer_row (is_of_kind owner OfTimers) (is_owner's owner) (own owner) live)
    ∙ sym (count_by-by_owner_and_id (is_owner's owner) (filter_map timer_row live))

pub timers-without : (owner : ℕ) (id : ℤ) (live : List Entry) → timers_of (without_first (is_of owner (timer_key id)) live) ≡ without_timer owner id (timers_of live)
timers-without owner id live =
    ap by_owner_and_id (filter_map-without_first timer_row (is_of owner (timer_key id)) (is_timer owner id) (same owner id) live)
    ∙ by_owner_and_id-without_first owner id (filter_map timer_row live)

abbrev pub row_of : ℕ → ℤ → ℕ → ℕ → ℤ → Fired
row_of owner id due handler arg = record { owner = owner; id = id; due = due; handler = handler; arg = arg }

set-refusal : (owner : ℕ) (id : ℤ) (live : List Entry) →
    cond (is_below 256 id) (cond (list_any (is_of owner (timer_key id)) live || ltb (count_by (is_of_kind owner OfTimers) live) 64) None (Some Full)) (Some Bad) ≡ set_refusal (timers_of live) owner id
set-refusal owner id live =
    ap (λ b. cond (is_below 256 id) (cond (b || ltb (count_by (is_of_kind owner OfTimers) live) 64) None (Some Full)) (Some Bad)) (timers-any owner id live)
    ∙ ap (λ n. cond (is_below 256 id) (cond (list_any (is_timer owner id) (timers_of live) || ltb n 64) None (Some Full)) (Some Bad)) (timers-count owner live)

-- The calls, from what they answer and leave.

pub serves_set : (old new : List Fired) (owner : ℕ) (id : ℤ) (due handler : ℕ) (arg : ℤ) (answer : Option Refusal) → answer ≡ set_refusal old owner id →
    (answer ≡ None → new ≡ with_timer (row_of owner id due handler arg) old) → Serves HoldsTimers old owner (Timer id due handler arg) answer new
serves_set old new owner id due handler arg answer is set share h lawful proper holds =
    let here : set_refusal old owner id ≡ set_refusal (timers_of (live_of h)) owner id = ap (λ rows. set_refusal rows owner id) holds in (
      is ∙ here ∙ sym (set-refusal owner id (live_of h)),
      λ ok. set ok ∙ ap (with_timer (row_of owner id due handler arg)) holds ∙ ap (insert_row (row_of owner id due handler arg)) (sym (timers-without owner id (live_of h))),
    )

pub serves_stop : (old new : List Fired) (owner : ℕ) (id : ℤ) (answer : Option Refusal) → answer ≡ del_refusal old owner id → (answer ≡ None → new ≡ without_timer owner id old) →
    Serves HoldsTimers old owner (DelTimer id) answer new
serves_stop old new owner id answer is gone share h lawful proper holds = (
  is ∙ ap (λ rows. del_refusal rows owner id) holds ∙ ap (λ b. cond b None (Some Bad)) (sym (timers-any owner id (live_of h))),
  λ ok. gone ok ∙ ap (without_timer owner id) holds ∙ sym (timers-without owner id (live_of h)),
)

pub serves_fire : (old new : List Fired) (owner : ℕ) (id : ℤ) (answer : Option Refusal) → answer ≡ del_refusal old owner id → (answer ≡ None → new ≡ without_timer owner id old) →
    Serves HoldsTimers old owner (Fires id) answer new
serves_fire old new owner id answer is gone share h lawful proper holds = serves_stop old new owner id answer is gone share h lawful proper holds

pub loses_timer : (old new : List Fired) (owner : ℕ) (id : ℤ) → new ≡ without_timer owner id old → Loses HoldsTimers old owner (timer_key id) new
loses_timer old new owner id is live sound holds = is ∙ ap (without_timer owner id) holds ∙ sym (timers-without owner id live)

-- another kind's update leaves the timers, and so does another kind's removal
pub timers-other : (e : Entry) (live : List Entry) → same_resource (key_of e.update).resource OfTimers ≡ false → timers_of (after_entry e live) ≡ timers_of live
timers-other e live apart = ap by_owner_and_id (rows-after_entry_other timer_row OfTimers refl none e live apart)

pub timers-without_other : (owner : ℕ) (key : Key) (live : List Entry) → same_resource key.resource OfTimers ≡ false → timers_of (without_first (is_of owner key) live) ≡ timers_of live
timers-without_other owner key live apart = ap by_owner_and_id (rows-without_other timer_row OfTimers none owner key live apart)
