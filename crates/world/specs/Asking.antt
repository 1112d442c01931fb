-- What the code of a kernel call stands upon.
-- Here: HasMemory
use Rattle.std.specs.Prelude.{ℕ, ◌≤◌, List, length}
use Rattle.sd_base.specs.History.{History}
use Rattle.device_model.specs.Scripted.{Scripted}
use Rattle.driver_host.specs.declared.host.Host.{Host}
use Rattle.driver_host.specs.Hosting.{IsHost}

-- the host stands for some history and memories, one of them the driver's
pub record HasMemory (host : Host) (owner : ℕ) : Type 0 where
  pub share : ℕ
  pub history : History
  pub memories : List (List ℕ)
  pub devices : Scripted
  pub is : IsHost share host history memories devices
  pub some : 1 ≤ owner
  pub within : owner ≤ length memories
  pub few : owner ≤ 4
