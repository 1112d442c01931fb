-- Histories of accepted updates, what of them is live, the net list of an owner, and the history without an owner.
--
-- A history is a list with the newest entry first, so that one more update is one more element at the front.
use Rattle.std.specs.Prelude.{ℕ, Bool, not, ◌&&◌, eqb, List, [], ◌∷◌, ℤ, pos, map}
use Rattle.std.specs.List.{filter}
use Rattle.std.specs.Ordering.{int_eq}
use Rattle.sd_base.specs.Selection.{without_first, without_last}
use Rattle.sd_base.specs.declared.history.Update.{Update}
use Rattle.sd_base.specs.declared.history.Update.TheVariants.{Grant, Free, Line, FreeLine, Ports, DropPorts, Device, DelDevice, Param, ClearParam, Timer, DelTimer, Fired, Lock, Unlock, Hold, DropHold, Work, Taken, Mask, Unmask, Clock}

-- an accepted update, with its owner
pub record Entry : Type 0 where
  pub owner : ℕ
  pub update : Update

-- accepted updates, the newest first
abbrev pub History : Type 0
History = List Entry

-- an owner's update as an entry
abbrev pub entry : ℕ → Update → Entry
entry owner update = record { owner = owner; update = update }

-- the kinds of thing that an update takes or gives back
pub data Resource : Type 0 where
  OfBlocks : Resource
  OfFrees : Resource
  OfLines : Resource
  OfPorts : Resource
  OfDevices : Resource
  OfParams : Resource
  OfTimers : Resource
  OfLocks : Resource
  OfHolds : Resource
  OfWork : Resource
  OfMasks : Resource
  OfClock : Resource
  OfNothing : Resource

-- the place of a kind in the list above, by which two kinds are compared
abbrev pub place_of : Resource → ℕ
place_of OfBlocks = 0
place_of OfFrees = 1
place_of OfLines = 2
place_of OfPorts = 3
place_of OfDevices = 4
place_of OfParams = 5
place_of OfTimers = 6
place_of OfLocks = 7
place_of OfHolds = 8
place_of OfWork = 9
place_of OfMasks = 10
place_of OfClock = 11
place_of OfNothing = 12

abbrev pub same_resource : Resource → Resource → Bool
same_resource a b = eqb (place_of a) (place_of b)

-- what an update takes or gives back: the kind, and the numbers that name it among its kind
pub record Key : Type 0 where
  pub resource : Resource
  pub task : ℕ
  pub number : ℤ
  pub count : ℤ

-- a key of which one number says all
abbrev pub numbered : Resource → ℤ → Key
numbered resource number = record { resource = resource; task = 0; number = number; count = pos 0 }

-- a key that has no number
abbrev pub plain : Resource → Key
plain resource = numbered resource (pos 0)

abbrev pub same_key : Key → Key → Bool
same_key a b = same_resource a.resource b.resource && (eqb a.task b.task && (int_eq a.number b.number && int_eq a.count b.count))

-- all blocks of an owner have one key: the newest is the only one that is ever taken away
abbrev pub block_key : Key
block_key = plain OfBlocks

abbrev pub free_key : ℕ → Key
free_key base = numbered OfFrees (pos base)

abbrev pub line_key : ℤ → Key
line_key line = numbered OfLines line

abbrev pub ports_key : ℤ → ℤ → Key
ports_key base n = record { resource = OfPorts; task = 0; number = base; count = n }

abbrev pub device_key : ℤ → Key
device_key id = numbered OfDevices id

abbrev pub param_key : ℤ → Key
param_key key = numbered OfParams key

abbrev pub timer_key : ℤ → Key
timer_key id = numbered OfTimers id

-- a lock is a task's
abbrev pub lock_key : ℤ → ℕ → Key
lock_key lock task = record { resource = OfLocks; task = task; number = lock; count = pos 0 }

abbrev pub hold_key : ℤ → Key
hold_key domain = numbered OfHolds domain

-- all queued items have one key: the queue alone orders them
abbrev pub work_key : Key
work_key = plain OfWork

abbrev pub mask_key : ℕ → Key
mask_key task = record { resource = OfMasks; task = task; number = pos 0; count = pos 0 }

abbrev pub key_of : Update → Key
key_of (Grant layout n image) = block_key
key_of (Free base) = free_key base
key_of (Line line handler) = line_key line
key_of (FreeLine line) = line_key line
key_of (Ports base n) = ports_key base n
key_of (DropPorts base n) = ports_key base n
key_of (Device id) = device_key id
key_of (DelDevice id) = device_key id
key_of (Param key value) = param_key key
key_of (ClearParam key) = param_key key
key_of (Timer id due handler arg) = timer_key id
key_of (DelTimer id) = timer_key id
key_of (Fired id) = timer_key id
key_of (Lock lock task) = lock_key lock task
key_of (Unlock lock task) = lock_key lock task
key_of (Hold domain) = hold_key domain
key_of (DropHold domain) = hold_key domain
key_of (Work handler arg) = work_key
key_of Taken = work_key
key_of (Mask task) = mask_key task
key_of (Unmask task) = mask_key task
key_of (Clock now) = plain OfClock

-- what an update does to the earlier ones of its owner and its key
pub data Role : Type 0 where
  Begins : Role  -- it is live beside them
  Replaces : Role  -- it is live in place of the one
  Ends : Role  -- it ends the newest of them
  EndsOldest : Role  -- it ends the oldest of them
  Passes : Role  -- it is never live and ends nothing

abbrev pub role_of : Update → Role
role_of (Grant layout n image) = Begins
role_of (Free base) = Begins
role_of (Line line handler) = Begins
role_of (FreeLine line) = Ends
role_of (Ports base n) = Begins
role_of (DropPorts base n) = Ends
role_of (Device id) = Begins
role_of (DelDevice id) = Ends
role_of (Param key value) = Replaces
role_of (ClearParam key) = Ends
role_of (Timer id due handler arg) = Replaces
role_of (DelTimer id) = Ends
role_of (Fired id) = Ends
role_of (Lock lock task) = Begins
role_of (Unlock lock task) = Ends
role_of (Hold domain) = Begins
role_of (DropHold domain) = Ends
role_of (Work handler arg) = Begins
role_of Taken = EndsOldest
role_of (Mask task) = Begins
role_of (Unmask task) = Ends
role_of (Clock now) = Passes

-- the key under which an update of a role is live; one that is never live has the key of nothing
abbrev pub key_by_role : Role → Key → Key
key_by_role Begins key = key
key_by_role Replaces key = key
key_by_role Ends key = plain OfNothing
key_by_role EndsOldest key = plain OfNothing
key_by_role Passes key = plain OfNothing

abbrev pub live_key : Update → Key
live_key update = key_by_role (role_of update) (key_of update)

-- an entry of this owner
abbrev pub is_owner : ℕ → Entry → Bool
is_owner owner e = eqb e.owner owner

-- an entry that is live under this key, whoever made it
abbrev pub has_key : Key → Entry → Bool
has_key key e = same_key (live_key e.update) key

-- an entry of this owner that is live under this key
abbrev pub is_of : ℕ → Key → Entry → Bool
is_of owner key e = same_key (live_key e.update) key && eqb e.owner owner

-- an entry of this owner that is live as one of this kind
abbrev pub is_of_kind : ℕ → Resource → Entry → Bool
is_of_kind owner resource e = same_resource (live_key e.update).resource resource && eqb e.owner owner

abbrev pub after_role : Role → Entry → List Entry → List Entry
after_role Begins e live = e ∷ live
after_role Replaces e live = e ∷ without_first (is_of e.owner (key_of e.update)) live
after_role Ends e live = without_first (is_of e.owner (key_of e.update)) live
after_role EndsOldest e live = without_last (is_of e.owner (key_of e.update)) live
after_role Passes e live = live

-- what is live after one more entry
abbrev pub after_entry : Entry → List Entry → List Entry
after_entry e live = after_role (role_of e.update) e live

-- the entries that no later one of their owner ended, the newest first
abbrev pub live_of : History → List Entry
live_of [] = []
live_of (e ∷ h) = after_entry e (live_of h)

abbrev pub clock_after : Update → ℕ → ℕ
clock_after (Clock now) before = now
clock_after _ before = before

-- the clock: what the last `Clock` entry says, or 0
abbrev pub clock_of : History → ℕ
clock_of [] = 0
clock_of (e ∷ h) = clock_after e.update (clock_of h)

-- the net list of an owner: its updates that none of its later updates ended, the newest first
abbrev pub net_of : History → ℕ → List Update
net_of h owner = map (λ e. e.update) (filter (is_owner owner) (live_of h))

-- the history with an owner's entries left out, the rest in order
abbrev pub Without : History → ℕ → History
Without h owner = filter (λ e. not (is_owner owner e)) h
