-- The rule of an update as the row of a call: what it comes to where the update is refused so, or is not.
use Rattle.std.specs.Prelude.{ℤ, negsuc, Option, Some, None}
use Rattle.sd_base.specs.declared.history.Refusal.{Refusal}
use Rattle.sd_base.specs.declared.history.Refusal.TheVariants.{Busy, Full, HeldBy, Unheld}
use Rattle.sd_base.specs.declared.history.Update.{Update}
use Rattle.sd_base.specs.declared.actors.Who.{Who}
use Rattle.sd_base.specs.declared.kinds.FailKind.TheVariants as fail
use Rattle.wrappers.specs.declared.call_out.CallOut.{CallOut}
use Rattle.wrappers.specs.declared.call_out.CallOut.TheVariants.{Fail}
use Rattle.wrappers.specs.Served.{Served, replies, does}
use Rattle.wrappers.specs.Rows.{held}

-- the number of a refusal
abbrev pub number_for : Refusal → ℤ
number_for Busy = negsuc 15
number_for Full = negsuc 27
number_for _ = negsuc 21

-- an update that is refused so comes to the number of its refusal
abbrev pub by_refusal : Update → Option Refusal → Served
by_refusal u None = does u
by_refusal u (Some refusal) = replies (number_for refusal)

-- a lock that is refused so
abbrev pub not_taken : Who → ℤ → Refusal → CallOut
not_taken who k (HeldBy holder) = held who k holder
not_taken who k _ = Fail fail.Lock

-- a lock that is not let go so
abbrev pub not_let_go : Refusal → CallOut
not_let_go Unheld = Fail fail.Unheld
not_let_go _ = Fail fail.Lock
