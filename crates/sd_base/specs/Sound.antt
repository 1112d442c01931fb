-- What holds of the live entries of every lawful history, and still holds where an owner's newest are taken away one by one.
use Rattle.std.specs.Prelude.{◌≡◌, ℕ, ◌≤◌, Bool, true, false, ltb, List, [], ◌∷◌, ℤ, None}
use Rattle.std.specs.List.{list_any, find, count_by}
use Rattle.sd_base.specs.declared.history.Update.{Update}
use Rattle.sd_base.specs.declared.history.Update.TheVariants.{Grant, Free}
use Rattle.sd_base.specs.History.{Entry, Resource, OfBlocks, OfFrees, OfLines, OfPorts, OfDevices, OfParams, OfTimers, OfLocks, OfHolds, OfWork, OfMasks, OfClock, OfNothing, Key, is_of}
use Rattle.sd_base.specs.Blocks.{has_base, has_room, granted}
use Rattle.sd_base.specs.Allowed.{is_lock, free_refusal, is_astray}

-- a grant is of elements that have a byte, and there is room for it; a release is of a block that is there and was not given back
abbrev pub BlockAllowed : ℕ → Update → List Entry → Type 0
BlockAllowed owner (Grant layout n image) live = (ltb 0 layout.size ≡ true) × (has_room (granted live owner) layout n ≡ true)
BlockAllowed owner (Free base) live = free_refusal (find (has_base base) (granted live owner)) ≡ None
BlockAllowed owner _ live = Unit {0}

-- each grant and each release is allowed by the older entries
abbrev pub BlocksAllowed : List Entry → Type 0
BlocksAllowed [] = Unit {0}
BlocksAllowed (e ∷ live) = BlockAllowed e.owner e.update live × BlocksAllowed live

-- the kinds of which an owner has each key at most once. Blocks and queued items have one key each, and a domain may be held often
abbrev pub is_single : Resource → Bool
is_single OfBlocks = false
is_single OfFrees = false
is_single OfLines = true
is_single OfPorts = true
is_single OfDevices = true
is_single OfParams = true
is_single OfTimers = true
is_single OfLocks = true
is_single OfHolds = false
is_single OfWork = false
is_single OfMasks = true
is_single OfClock = false
is_single OfNothing = false

-- numbers in range, grants and releases that were allowed, one entry for a key of a single kind, and one holder for a lock
pub record IsSound (live : List Entry) : Type 0 where
  pub in_range : list_any is_astray live ≡ false
  pub blocks : BlocksAllowed live
  pub singles : (owner : ℕ) (key : Key) → is_single key.resource ≡ true → count_by (is_of owner key) live ≤ 1
  pub locks : (lock : ℤ) → count_by (is_lock lock) live ≤ 1
