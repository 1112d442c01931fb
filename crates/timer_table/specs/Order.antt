-- Live timers, the order by owner and id in which they are kept, and the order in which they fire.
use Rattle.std.specs.Prelude.{ℕ, Bool, cond, not, ◌&&◌, ◌||◌, eqb, ltb, List, [], ◌∷◌, ℤ, int_lt, Option, Some, None}
use Rattle.std.specs.List.{filter, filter_map}
use Rattle.std.specs.Ordering.{int_eq}
use Rattle.sd_base.specs.declared.history.Update.{Update}
use Rattle.sd_base.specs.declared.history.Update.TheVariants.{Timer}
use Rattle.sd_base.specs.History.{Entry}
use Rattle.timer_table.specs.declared.fired.Fired.{Fired}

-- the owner's timer with this id
abbrev pub is_timer : ℕ → ℤ → Fired → Bool
is_timer owner id row = int_eq row.id id && eqb row.owner owner

-- a timer of this owner
abbrev pub is_owner's : ℕ → Fired → Bool
is_owner's owner row = eqb row.owner owner

-- by owner and then by id, the timer stands before the owner's timer with this id
abbrev pub comes_before : ℕ → ℤ → Fired → Bool
comes_before owner id row = ltb row.owner owner || (eqb row.owner owner && int_lt row.id id)

-- the list with a timer put in before the first that does not come before it
abbrev pub insert_row : Fired → List Fired → List Fired
insert_row x [] = x ∷ []
insert_row x (y ∷ ys) = cond (comes_before x.owner x.id y) (y ∷ insert_row x ys) (x ∷ y ∷ ys)

-- the timers by owner and id
abbrev pub by_owner_and_id : List Fired → List Fired
by_owner_and_id [] = []
by_owner_and_id (x ∷ xs) = insert_row x (by_owner_and_id xs)

-- the first timer fires before the second: by due, then owner, then id
abbrev pub fires_before : Fired → Fired → Bool
fires_before a b = ltb a.due b.due || (eqb a.due b.due && comes_before b.owner b.id a)

-- of a timer and perhaps another, the one that fires first
abbrev pub earlier : Fired → Option Fired → Fired
earlier x None = x
earlier x (Some y) = cond (fires_before y x) y x

-- the one that fires first
abbrev pub first_to_fire : List Fired → Option Fired
first_to_fire [] = None
first_to_fire (x ∷ xs) = Some (earlier x (first_to_fire xs))

-- the timer's moment has come
abbrev pub is_due : ℕ → Fired → Bool
is_due now row = not (ltb now row.due)

-- the same, of a timer that counts only where it is due and that yields to the other where neither is before
abbrev pub earlier_if_due : ℕ → Fired → Option Fired → Option Fired
earlier_if_due now x None = cond (is_due now x) (Some x) None
earlier_if_due now x (Some y) = cond (is_due now x && fires_before x y) (Some x) (Some y)

-- the one to fire next, of those whose moment has come
abbrev pub next_of : ℕ → List Fired → Option Fired
next_of now rows = first_to_fire (filter (is_due now) rows)

abbrev pub timer_row_of : ℕ → Update → Option Fired
timer_row_of owner (Timer id due handler arg) = Some (record { owner = owner; id = id; due = due; handler = handler; arg = arg })
timer_row_of owner _ = None

-- what a live entry sets, if it sets a timer
abbrev pub timer_row : Entry → Option Fired
timer_row e = timer_row_of e.owner e.update

-- the live timers by owner and id
abbrev pub timers_of : List Entry → List Fired
timers_of live = by_owner_and_id (filter_map timer_row live)
