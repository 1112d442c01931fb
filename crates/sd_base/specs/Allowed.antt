-- When a history allows an update, by which refusal it is refused otherwise, and which histories are lawful.
--
-- Each rule tests in the order in which it is written here; the first condition that holds names the refusal. Caps count
-- the owner's own entries only.
use Rattle.std.specs.Prelude.{◌≡◌, ℕ, Bool, true, false, cond, not, ◌&&◌, ◌||◌, eqb, ltb, List, [], ◌∷◌, ℤ, pos, ◌+ℤ◌, int_lt, Option, Some, None}
use Rattle.std.specs.List.{list_any, find, count_by}
use Rattle.std.specs.Ordering.{int_eq}
use Rattle.sd_base.specs.declared.history.Refusal.{Refusal}
use Rattle.sd_base.specs.declared.history.Refusal.TheVariants.{Busy, Bad, Full, HeldBy, NotBlock, Freed, Unheld, NoRoom}
use Rattle.sd_base.specs.declared.history.Update.{Update}
use Rattle.sd_base.specs.declared.history.Update.TheVariants.{Grant, Free, Line, FreeLine, Ports, DropPorts, Device, DelDevice, Param, ClearParam, Timer, DelTimer, Fired, Lock, Unlock, Hold, DropHold, Work, Taken, Mask, Unmask, Clock}
use Rattle.sd_base.specs.Selection.{find_last, is_below}
use Rattle.sd_base.specs.History.{Entry, History, OfPorts, OfDevices, OfParams, OfTimers, OfLocks, same_resource, line_key, ports_key, device_key, param_key, timer_key, lock_key, hold_key, work_key, mask_key, live_key, is_owner, has_key, is_of, is_of_kind, live_of, clock_of}
use Rattle.sd_base.specs.Blocks.{Block, is_image, is_freed, has_base, has_room, granted}

-- the `n` ports from `base` are ports: all from 0 to 65,535, and at least one
abbrev pub is_range : ℤ → ℤ → Bool
is_range base n = not (int_lt base (pos 0)) && (int_lt (pos 0) n && int_lt (base +ℤ n) (pos 65537))

-- the n ports from a and the m ports from b have one in common
abbrev pub overlaps : ℤ → ℤ → ℤ → ℤ → Bool
overlaps a n b m = int_lt a (b +ℤ m) && int_lt b (a +ℤ n)

-- an entry holds a port of this range
abbrev pub meets : ℤ → ℤ → Entry → Bool
meets base n e = same_resource (live_key e.update).resource OfPorts && overlaps (live_key e.update).number (live_key e.update).count base n

-- an entry holds this lock, whoever made it
abbrev pub is_lock : ℤ → Entry → Bool
is_lock lock e = same_resource (live_key e.update).resource OfLocks && int_eq (live_key e.update).number lock

-- a block can be given back where the owner allocated it and has not given it back
abbrev pub free_refusal : Option Block → Option Refusal
free_refusal None = Some NotBlock
free_refusal (Some b) = cond (is_image b.state) (Some NotBlock) (cond (is_freed b.state) (Some Freed) None)

-- a lock that someone holds is refused with its holder
abbrev pub held_by : Option Entry → Option Refusal
held_by None = None
held_by (Some e) = Some (HeldBy (record { owner = e.owner; task = (live_key e.update).task }))

-- the front of the queue can be taken for its own owner alone
abbrev pub unless_owner : ℕ → Option Entry → Option Refusal
unless_owner owner None = Some Bad
unless_owner owner (Some e) = cond (is_owner owner e) None (Some Bad)

-- Why an owner's update is refused where as many owners as the share may hold one line, these entries are live and the clock is so;
-- or None where it is accepted.
abbrev pub refusal_on : ℕ → List Entry → ℕ → ℕ → Update → Option Refusal
refusal_on share live clock owner (Grant layout n image) = cond (has_room (granted live owner) layout n) None (Some NoRoom)
refusal_on share live clock owner (Free base) = free_refusal (find (has_base base) (granted live owner))
refusal_on share live clock owner (Line line handler) =
    cond (is_below 64 line)
    (cond (list_any (is_of owner (line_key line)) live || not (ltb (count_by (has_key (line_key line)) live) share)) (Some Busy) None)
    (Some Bad)
refusal_on share live clock owner (FreeLine line) = cond (list_any (is_of owner (line_key line)) live) None (Some Bad)
refusal_on share live clock owner (Ports base n) =
    cond (is_range base n)
    (cond (list_any (meets base n) live) (Some Busy) (cond (ltb (count_by (is_of_kind owner OfPorts) live) 32) None (Some Full)))
    (Some Bad)
refusal_on share live clock owner (DropPorts base n) = cond (list_any (is_of owner (ports_key base n)) live) None (Some Bad)
refusal_on share live clock owner (Device id) =
    cond (is_below 1024 id)
    (cond (list_any (has_key (device_key id)) live) (Some Busy) (cond (ltb (count_by (is_of_kind owner OfDevices) live) 32) None (Some Full)))
    (Some Bad)
refusal_on share live clock owner (DelDevice id) = cond (list_any (is_of owner (device_key id)) live) None (Some Bad)
refusal_on share live clock owner (Param key value) =
    cond (is_below 256 key)
    (cond (list_any (is_of owner (param_key key)) live || ltb (count_by (is_of_kind owner OfParams) live) 32) None (Some Full))
    (Some Bad)
refusal_on share live clock owner (ClearParam key) = cond (list_any (is_of owner (param_key key)) live) None (Some Bad)
refusal_on share live clock owner (Timer id due handler arg) =
    cond (is_below 256 id)
    (cond (list_any (is_of owner (timer_key id)) live || ltb (count_by (is_of_kind owner OfTimers) live) 64) None (Some Full))
    (Some Bad)
refusal_on share live clock owner (DelTimer id) = cond (list_any (is_of owner (timer_key id)) live) None (Some Bad)
refusal_on share live clock owner (Fired id) = cond (list_any (is_of owner (timer_key id)) live) None (Some Bad)
refusal_on share live clock owner (Lock lock task) = cond (is_below 64 lock) (held_by (find (is_lock lock) live)) (Some Bad)
refusal_on share live clock owner (Unlock lock task) =
    cond (is_below 64 lock) (cond (list_any (is_of owner (lock_key lock task)) live) None (Some Unheld)) (Some Bad)
refusal_on share live clock owner (Hold domain) =
    cond (is_below 64 domain) (cond (ltb (count_by (is_of owner (hold_key domain)) live) 8) None (Some Full)) (Some Bad)
refusal_on share live clock owner (DropHold domain) = cond (list_any (is_of owner (hold_key domain)) live) None (Some Bad)
refusal_on share live clock owner (Work handler arg) = cond (ltb (count_by (is_of owner work_key) live) 64) None (Some Full)
refusal_on share live clock owner Taken = unless_owner owner (find_last (has_key work_key) live)
refusal_on share live clock owner (Mask task) = cond (list_any (is_of owner (mask_key task)) live) (Some Busy) None
refusal_on share live clock owner (Unmask task) = cond (list_any (is_of owner (mask_key task)) live) None (Some Unheld)
refusal_on share live clock owner (Clock now) = cond (ltb now clock) (Some Bad) None

-- why an owner's update is refused after a history, by the share, or None where the history allows it
abbrev pub refusal : ℕ → History → ℕ → Update → Option Refusal
refusal share h owner update = refusal_on share (live_of h) (clock_of h) owner update

-- by this share each entry is allowed by the entries before it
abbrev pub IsLawful : ℕ → History → Type 0
IsLawful share [] = Unit {0}
IsLawful share (e ∷ h) = (refusal share h e.owner e.update ≡ None) × IsLawful share h

-- what the kernel itself may ask for, which is owner 0 with the one activity of task 0
abbrev pub is_of_kernel : Update → Bool
is_of_kernel (Line line handler) = true
is_of_kernel (FreeLine line) = true
is_of_kernel (Param key value) = true
is_of_kernel (ClearParam key) = true
is_of_kernel (Hold domain) = true
is_of_kernel (DropHold domain) = true
is_of_kernel (Lock lock task) = eqb task 0
is_of_kernel (Unlock lock task) = eqb task 0
is_of_kernel (Clock now) = true
is_of_kernel _ = false

-- what a driver may ask for: anything but the clock, for a task up to 8, and blocks of elements that have a byte
abbrev pub is_of_driver : Update → Bool
is_of_driver (Grant layout n image) = ltb 0 layout.size
is_of_driver (Lock lock task) = ltb task 9
is_of_driver (Unlock lock task) = ltb task 9
is_of_driver (Mask task) = ltb task 9
is_of_driver (Unmask task) = ltb task 9
is_of_driver (Clock now) = false
is_of_driver _ = true

-- the condition under which an owner's update is ever asked for: the owner is the kernel or one of the drivers 1 to 4, and the update is
-- one of its kind
abbrev pub is_proper : ℕ → Update → Bool
is_proper owner update = cond (eqb owner 0) (is_of_kernel update) (ltb owner 5 && is_of_driver update)

-- each entry was asked for under that condition
abbrev pub IsProper : History → Type 0
IsProper [] = Unit {0}
IsProper (e ∷ h) = (is_proper e.owner e.update ≡ true) × IsProper h

-- the numbers of an update that can be live lie where its rule wants them
abbrev pub is_in_range : Update → Bool
is_in_range (Line line handler) = is_below 64 line
is_in_range (Ports base n) = is_range base n
is_in_range (Device id) = is_below 1024 id
is_in_range (Param key value) = is_below 256 key
is_in_range (Timer id due handler arg) = is_below 256 id
is_in_range (Lock lock task) = is_below 64 lock
is_in_range (Hold domain) = is_below 64 domain
is_in_range _ = true

abbrev pub is_astray : Entry → Bool
is_astray e = not (is_in_range e.update)
