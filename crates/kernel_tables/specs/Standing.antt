-- What it means that the kernel's tables stand for a history.
use Rattle.std.specs.Prelude.{◌≡◌, List}
use Rattle.sd_base.specs.History.{Entry, History, live_of, clock_of}
use Rattle.grant_table.specs.GrantPart.{HoldsGrants}
use Rattle.claim_table.specs.ClaimPart.{HoldsClaims}
use Rattle.timer_table.specs.Table.{HoldsTimers}
use Rattle.share_table.specs.Table.{HoldsShares}
use Rattle.kernel_tables.specs.declared.kernel.Kernel.{Kernel}

-- each table holds its part of what is live
pub record HoldsTables (k : Kernel) (live : List Entry) : Type 0 where
  pub grants : HoldsGrants k.grants live
  pub claims : HoldsClaims k.claims live
  pub timers : HoldsTimers k.timers live
  pub shares : HoldsShares k.shares live

-- the kernel stands for a history: each table holds its part of what is live after it, and the clock is the history's
pub record StandsFor (k : Kernel) (h : History) : Type 0 where
  pub tables : HoldsTables k (live_of h)
  pub clock : k.now ≡ clock_of h
