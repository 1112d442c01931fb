-- What a kernel call comes to, and the words in which the rows of the table say it.
-- Here: Served; gives, replies, bad, busy, full, done, does, fails
use Rattle.std.specs.Prelude.{ℕ, List, ◌∷◌, ℤ, pos, negsuc, Option, Some, None}
use Rattle.sd_base.specs.declared.actors.Fat.{Fat}
use Rattle.sd_base.specs.declared.history.Update.{Update}
use Rattle.sd_base.specs.declared.kinds.FailKind.{FailKind}
use Rattle.sd_base.specs.History.{History, entry}
use Rattle.wrappers.specs.declared.call_out.CallOut.{CallOut}
use Rattle.wrappers.specs.declared.call_out.CallOut.TheVariants.{Reply, Pointer, Said, Fail}
use Rattle.wrappers.specs.declared.call_out.Saying.{Saying}

-- what the caller is told, and the one update that the history gains, if any
pub record Served : Type 0 where
  pub out : CallOut
  pub update : Option Update

-- this, and nothing changes
abbrev pub gives : CallOut → Served
gives out = record { out = out; update = None }

-- a number, and nothing changes
abbrev pub replies : ℤ → Served
replies n = gives (Reply n)

-- a number is out of range, or the caller has not what it names (EINVAL, 22)
abbrev pub bad : Served
bad = replies (negsuc 21)

-- it is held (EBUSY, 16)
abbrev pub busy : Served
busy = replies (negsuc 15)

-- the caller has as many as it may have (ENOSPC, 28)
abbrev pub full : Served
full = replies (negsuc 27)

-- nothing was to be done
abbrev pub done : Served
done = replies (pos 0)

-- the update is made
abbrev pub does : Update → Served
does u = record { out = Reply (pos 0); update = Some u }

-- something is printed
abbrev pub says : Saying → Served
says saying = gives (Said saying)

-- the step of the driver fails
abbrev pub fails : FailKind → Served
fails kind = gives (Fail kind)

-- a pointer, and nothing changes
abbrev pub points : Fat → Served
points p = gives (Pointer p)

-- a block is granted, and a pointer to it given
abbrev pub grants : Fat → Update → Served
grants p u = record { out = Pointer p; update = Some u }

-- the history with an owner's update, if there is one
abbrev pub with_update : ℕ → Option Update → History → History
with_update owner None h = h
with_update owner (Some u) h = entry owner u ∷ h
