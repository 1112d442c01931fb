-- Who holds each lock.
use Rattle.std.specs.Prelude.{◌≡◌, Bool, ◌&&◌, eqb, List, ℤ, pos, negsuc, Option, Some, None, slice_index_or}
use Rattle.std.specs.List.{list_any, find}
use Rattle.sd_base.specs.declared.actors.Who.{Who}
use Rattle.sd_base.specs.declared.history.Refusal.{Refusal}
use Rattle.sd_base.specs.declared.history.Refusal.TheVariants.{Bad, HeldBy, Unheld}
use Rattle.sd_base.specs.Selection.{passes}
use Rattle.sd_base.specs.History.{Entry, OfLocks, same_resource, live_key}
use Rattle.sd_base.specs.Allowed.{is_lock}
use Rattle.share_table.specs.declared.answers.LockOut.{LockOut}
use Rattle.share_table.specs.declared.answers.LockOut.TheVariants as locked
use Rattle.share_table.specs.declared.answers.UnlockOut.{UnlockOut}
use Rattle.share_table.specs.declared.answers.UnlockOut.TheVariants as unlocked

-- the activity that holds the lock, by what the table has at its number
abbrev pub lock_at : List (Option Who) → ℤ → Option Who
lock_at locks (pos k) = slice_index_or locks k None
lock_at locks (negsuc k) = None

-- the activity of a live entry that takes a lock
abbrev pub holder_of : Option Entry → Option Who
holder_of None = None
holder_of (Some e) = Some (record { owner = e.owner; task = (live_key e.update).task })

-- the table holds its part of what is live: at each number, the activity that holds that lock
abbrev pub HoldsLocks : List (Option Who) → List Entry → Type 0
HoldsLocks locks live = (lock : ℤ) → lock_at locks lock ≡ holder_of (find (is_lock lock) live)

abbrev pub is_who : Who → Who → Bool
is_who a b = eqb b.owner a.owner && eqb b.task a.task

-- the activity holds one of the locks
abbrev pub has_holder : Who → List (Option Who) → Bool
has_holder who locks = list_any (passes (is_who who)) locks

-- the refusal that an answer names, or None where it accepts
abbrev pub refusal_of_lock : LockOut → Option Refusal
refusal_of_lock locked.Locked = None
refusal_of_lock (locked.HeldBy who) = Some (HeldBy who)
refusal_of_lock locked.Bad = Some Bad

abbrev pub refusal_of_unlock : UnlockOut → Option Refusal
refusal_of_unlock unlocked.Ok = None
refusal_of_unlock unlocked.Unheld = Some Unheld
refusal_of_unlock unlocked.Bad = Some Bad

-- a live entry by which the activity holds a lock
abbrev pub takes_lock : Who → Entry → Bool
takes_lock who e = same_resource (live_key e.update).resource OfLocks && (eqb e.owner who.owner && eqb (live_key e.update).task who.task)
