use Rattle.std.proofs.Common.{◌≡◌, ◌≤◌, ◌-◌, ℕ, suc, length}
use Rattle.std.specs.Prelude.{slice_get}
use Rattle.driver_code.specs.Listing.{BeginsBy, BeginsBehind}
use Rattle.driver_code.proofs.listing.split.Given as goal

abbrev pub invariant-loop-low : goal.invariant-loop-low
invariant-loop-low l = record {
  ordered : l.low ≤ l.high;
  within : l.high ≤ length l.segments;
  last : (k : ℕ) → suc k ≡ l.low → BeginsBy l.pc (slice_get l.segments k);
  next : BeginsBehind l.pc (slice_get l.segments l.high);
}

abbrev pub decreases-loop-low : goal.decreases-loop-low
decreases-loop-low l = l.high - l.low
