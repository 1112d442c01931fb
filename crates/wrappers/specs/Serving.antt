-- What the code of a call keeps to: it does what the row of the call says, after every lawful history for which the tracker stands.
use Rattle.std.specs.Prelude.{◌≡◌, ℕ, ℤ, Option, None}
use Rattle.sd_base.specs.declared.actors.Who.{Who}
use Rattle.sd_base.specs.History.{History}
use Rattle.byte_memory.specs.Tested.{Memory}
use Rattle.device_model.specs.Scripted.{Scripted}
use Rattle.checked_tree.specs.declared.kernel.KernelCall.{KernelCall}
use Rattle.update_tracker.specs.Tracking.{TrackedRows, Stands, OfEachHistory}
use Rattle.wrappers.specs.declared.call_out.CallOut.{CallOut}
use Rattle.wrappers.specs.declared.call_out.CallOut.TheVariants.{Blocked, Fail, Wild}
use Rattle.wrappers.specs.Served.{Served, with_update}
use Rattle.wrappers.specs.Rows.{served, port_of, port_taken, without_answer}

-- the answer is what the call comes to, the tracker then stands for the history with the update, and without one nothing has changed
pub record IsServed (old : TrackedRows) (owner : ℕ) (h : History) (s : Served) (out : CallOut) (new : TrackedRows) : Type 0 where
  pub answer : out ≡ s.out
  pub stands : Stands new (with_update owner s.update h)
  pub kept : s.update ≡ None → new ≡ old

-- of every lawful history for which the tracker stands, by the share of its lines
abbrev pub ServesRow : TrackedRows → ℕ → (ℕ → History → Served) → CallOut → TrackedRows → Type 0
ServesRow old owner row out new = OfEachHistory old (λ h. IsServed old owner h (row old.kernel.claims.share h) out new)

-- the answer is what the call comes to, which changes nothing
pub record IsRead (s : Served) (out : CallOut) : Type 0 where
  pub answer : out ≡ s.out
  pub quiet : s.update ≡ None

-- the same of a call that only reads the tables
abbrev pub ReadsRow : TrackedRows → (History → Served) → CallOut → Type 0
ReadsRow t row out = OfEachHistory t (λ h. IsRead (row h) out)

-- the number of a port that an owner holds, if it does
abbrev pub ReadsPort : TrackedRows → ℕ → ℤ → Option ℕ → Type 0
ReadsPort t owner port number = OfEachHistory t (λ h. number ≡ port_of h owner port)

-- the answer that a read of a port takes leaves the devices
abbrev pub TakesAnswer : TrackedRows → (History → Option ℕ) → Scripted → Scripted → Type 0
TakesAnswer t port old new = OfEachHistory t (λ h. new ≡ without_answer (port h) old)

-- A call is served as its row says, and the answer that it takes leaves the devices.
abbrev pub ServesCall : TrackedRows → Memory → Scripted → Who → KernelCall → CallOut → TrackedRows → Type 0
ServesCall old memory devices who call out new =
    ServesRow old who.owner (λ share h. served share h memory devices who call) out new

-- an answer after which the statement is not ended: the caller waits, or its step fails
abbrev pub IsStop : CallOut → Type 0 → Type 0
IsStop (Blocked k) P = P
IsStop (Fail kind) P = P
IsStop Wild P = P
IsStop _ P = Unit {0}
