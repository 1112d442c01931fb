-- A kernel call of a driver, served by the host: what the answer is and what the host stands for then.
-- Here: grown, after_call, ServesCaller, IsTame
use Rattle.std.specs.Prelude.{◌≡◌, ℕ, List, Option, Some, None}
use Rattle.sd_base.specs.declared.actors.Who.{Who}
use Rattle.sd_base.specs.declared.history.Update.{Update}
use Rattle.sd_base.specs.History.{History}
use Rattle.device_model.specs.Scripted.{Scripted}
use Rattle.checked_tree.specs.declared.kernel.KernelCall.{KernelCall}
use Rattle.wrappers.specs.declared.call_out.CallOut.{CallOut}
use Rattle.wrappers.specs.declared.call_out.CallOut.TheVariants.{Reply, Pointer, Said}
use Rattle.wrappers.specs.Served.{Served}
use Rattle.wrappers.specs.Rows.{served, port_taken, without_answer}
use Rattle.driver_host.specs.declared.host.Host.{Host}
use Rattle.driver_host.specs.Hosting.{IsHost}
use Rattle.world_core.specs.WorldState.{memory_of}
use Rattle.world_core.specs.Script.{updated}

-- the history with an owner's update, if there is one
abbrev pub grown : ℕ → ℕ → Option Update → History → History
grown share owner None h = h
grown share owner (Some update) h = updated share owner update h

-- What the host stands for after a call that comes to this: after a number, the history with the update and the devices without the
-- answer that was taken; after a pointer, the history with the update; else what it stood for.
abbrev pub after_call : ℕ → Who → Option Update → Option ℕ → CallOut → Host → History → List (List ℕ) → Scripted → Type 0
after_call share who update port (Reply n) host h memories devices = IsHost share host (grown share who.owner update h) memories (without_answer port devices)
after_call share who update port (Pointer p) host h memories devices = IsHost share host (grown share who.owner update h) memories devices
after_call share who update port _ host h memories devices = IsHost share host h memories devices

abbrev pub comes_to : ℕ → History → List (List ℕ) → Scripted → Who → KernelCall → Served
comes_to share h memories devices who call = served share h (memory_of h memories who.owner) devices who call

-- the answer is what the call comes to, of whatever the host stood for
pub record ServesCaller (old : Host) (who : Who) (call : KernelCall) (answer : CallOut) (new : Host) : Type 0 where
  pub answered : (share : ℕ) (h : History) (memories : List (List ℕ)) (devices : Scripted) → IsHost share old h memories devices
      → answer ≡ (comes_to share h memories devices who call).out
  pub stands : (share : ℕ) (h : History) (memories : List (List ℕ)) (devices : Scripted) → IsHost share old h memories devices
      → after_call share who (comes_to share h memories devices who call).update (port_taken h who call) answer new h memories devices

-- a call that says something makes no update
abbrev pub IsTame : CallOut → Option Update → Type 0
IsTame (Said saying) update = update ≡ None
IsTame _ update = Unit {0}
