-- An update of one table leaves the parts of the others.
use Rattle.std.proofs.Common.{◌≡◌, ℕ, false, List, sym, ◌∙◌}
use Rattle.sd_base.specs.declared.history.Update.{Update}
use Rattle.sd_base.specs.History.{Entry, OfLines, OfPorts, OfDevices, OfParams, OfTimers, OfLocks, OfHolds, OfWork, OfMasks, same_resource, key_of, entry, after_entry, clock_after}
use Rattle.sd_base.specs.Blocks.{Block, blocks_after}
use Rattle.claim_table.specs.ClaimRows.{ClaimRows}
use Rattle.claim_table.specs.ClaimPart.{HoldsClaims}
use Rattle.claim_table.proofs.PartKept as claims
use Rattle.grant_table.specs.declared.blocks.BlockRow.{BlockRow}
use Rattle.grant_table.specs.GrantPart.{HoldsGrants}
use Rattle.grant_table.proofs.GrantPartKept as grants
use Rattle.share_table.specs.Rows.{ShareRows}
use Rattle.share_table.specs.Table.{HoldsShares}
use Rattle.share_table.proofs.Locked.{locks-after}
use Rattle.share_table.proofs.Masked.{masks-after}
use Rattle.share_table.proofs.Held.{holds-after}
use Rattle.share_table.proofs.Queued.{work-after}
use Rattle.timer_table.specs.declared.fired.Fired.{Fired}
use Rattle.timer_table.specs.Table.{HoldsTimers}
use Rattle.timer_table.proofs.Live.{timers-other}

-- the update is of no block
abbrev pub LeavesGrants : Update → Type 0
LeavesGrants u = (blocks : List Block) → blocks_after u blocks ≡ blocks

-- the update is of no line, port, device or parameter
abbrev pub LeavesClaims : Update → Type 0
LeavesClaims u =
    (same_resource (key_of u).resource OfLines ≡ false) × (same_resource (key_of u).resource OfPorts ≡ false)
    × (same_resource (key_of u).resource OfDevices ≡ false) × (same_resource (key_of u).resource OfParams ≡ false)

-- the update is of no timer
abbrev pub LeavesTimers : Update → Type 0
LeavesTimers u = same_resource (key_of u).resource OfTimers ≡ false

-- the update is of no lock, mask, hold or item of work
abbrev pub LeavesShares : Update → Type 0
LeavesShares u =
    (same_resource (key_of u).resource OfLocks ≡ false) × (same_resource (key_of u).resource OfMasks ≡ false)
    × (same_resource (key_of u).resource OfHolds ≡ false) × (same_resource (key_of u).resource OfWork ≡ false)

-- the update is no change of the clock
abbrev pub LeavesClock : Update → Type 0
LeavesClock u = (now : ℕ) → clock_after u now ≡ now

pub grants_kept : (t : List (List BlockRow)) (owner : ℕ) (u : Update) (live : List Entry) → LeavesGrants u → HoldsGrants t live → HoldsGrants t (after_entry (entry owner u) live)
grants_kept t owner u live leaves holds = grants.others_kept t owner u live leaves holds

pub claims_kept : (t : ClaimRows) (owner : ℕ) (u : Update) (live : List Entry) → LeavesClaims u → HoldsClaims t live → HoldsClaims t (after_entry (entry owner u) live)
claims_kept t owner u live leaves holds = claims.others_kept t (entry owner u) live leaves.0 leaves.1 leaves.2 leaves.3 holds

pub timers_kept : (t : List Fired) (owner : ℕ) (u : Update) (live : List Entry) → LeavesTimers u → HoldsTimers t live → HoldsTimers t (after_entry (entry owner u) live)
timers_kept t owner u live leaves holds = holds ∙ sym (timers-other (entry owner u) live leaves)

pub shares_kept : (t : ShareRows) (owner : ℕ) (u : Update) (live : List Entry) → LeavesShares u → HoldsShares t live → HoldsShares t (after_entry (entry owner u) live)
shares_kept t owner u live leaves holds = record {
  locks = locks-after t.locks (entry owner u) live leaves.0 holds.locks;
  masks = masks-after t.masks (entry owner u) live leaves.1 holds.masks;
  holds = holds-after t.holds (entry owner u) live leaves.2 holds.holds;
  work = work-after t.work (entry owner u) live leaves.3 holds.work;
}
