-- The table of timers: what it keeps to, and the history of which it holds its part.
use Rattle.std.specs.Prelude.{cond, ◌&&◌, Option, Some, None, Result, Ok, Err, ◌≡◌, ℕ, ◌≤◌, Bool, false, ◌||◌, ltb, List, [], ◌∷◌, ℤ, pos, int_lt, count_by}
use Rattle.std.specs.List.{list_any, Contains}
use Rattle.sd_base.specs.declared.history.Refusal.{Refusal}
use Rattle.sd_base.specs.declared.history.Refusal.TheVariants.{Bad, Full}
use Rattle.sd_base.specs.Selection.{is_below, without_first}
use Rattle.sd_base.specs.History.{Entry, History, live_of}
use Rattle.sd_base.specs.Allowed.{IsLawful, IsProper}
use Rattle.timer_table.specs.declared.fired.Fired.{Fired}
use Rattle.timer_table.specs.declared.refusal.TimerRefusal.{TimerRefusal}
use Rattle.timer_table.specs.declared.refusal.TimerRefusal.TheVariants as timers
use Rattle.timer_table.specs.Order.{is_timer, is_owner's, comes_before, insert_row, fires_before, is_due, timers_of}

-- no timer comes before an earlier one of the list
abbrev pub IsAscending : List Fired → Type 0
IsAscending [] = Unit {0}
IsAscending (x ∷ xs) = (list_any (comes_before x.owner x.id) xs ≡ false) × IsAscending xs

-- how many come before the owner's timer with this id, which is where it stands or is put in
abbrev pub place_in : List Fired → ℕ → ℤ → ℕ
place_in rows owner id = count_by (comes_before owner id) rows

-- the place that a search answers, whether or not the timer stands there
abbrev pub place_found : Result ℕ ℕ → ℕ
place_found (Ok place) = place
place_found (Err place) = place

-- there is no such owner, or no such id
abbrev pub is_astray : Fired → Bool
is_astray row = ltb 4 row.owner || int_lt row.id (pos 0)

-- in order, each with an owner from 0 to 4 and no negative id, and at most 64 of each owner
pub record IsTable (rows : List Fired) : Type 0 where
  pub ascending : IsAscending rows
  pub in_range : list_any is_astray rows ≡ false
  pub few : (owner : ℕ) → count_by (is_owner's owner) rows ≤ 64

-- the table holds its part of what is live: its timers are the live ones, by owner and id
abbrev pub HoldsTimers : List Fired → List Entry → Type 0
HoldsTimers rows live = rows ≡ timers_of live

-- what is said of every lawful history, whatever its share, of which the table holds its part
abbrev pub OfEachHistory : List Fired → (History → Type 0) → Type 0
OfEachHistory t P = (share : ℕ) (h : History) → IsLawful share h → IsProper h → HoldsTimers t (live_of h) → P h

-- the refusal that an answer names
abbrev pub refusal_as : TimerRefusal → Refusal
refusal_as timers.Bad = Bad
refusal_as timers.Full = Full

abbrev pub refusal_of : Result (Unit {0}) TimerRefusal → Option Refusal
refusal_of (Ok done) = None
refusal_of (Err refusal) = Some (refusal_as refusal)

-- why an owner's timer is not set where these are live
abbrev pub set_refusal : List Fired → ℕ → ℤ → Option Refusal
set_refusal rows owner id =
    cond (is_below 256 id) (cond (list_any (is_timer owner id) rows || ltb (count_by (is_owner's owner) rows) 64) None (Some Full)) (Some Bad)

-- why an owner's timer is not stopped where these are live
abbrev pub del_refusal : List Fired → ℕ → ℤ → Option Refusal
del_refusal rows owner id = cond (list_any (is_timer owner id) rows) None (Some Bad)

-- the timers without the owner's with this id
abbrev pub without_timer : ℕ → ℤ → List Fired → List Fired
without_timer owner id rows = without_first (is_timer owner id) rows

-- the timers with this one, in the stead of one of its owner and id
abbrev pub with_timer : Fired → List Fired → List Fired
with_timer row rows = insert_row row (without_timer row.owner row.id rows)

-- This timer is one of them and due, and none that is due fires before it.
pub record IsNext (now : ℕ) (rows : List Fired) (row : Fired) : Type 0 where
  pub live : Contains rows row
  pub due : row.due ≤ now
  pub first : list_any (λ other. is_due now other && fires_before other row) rows ≡ false
