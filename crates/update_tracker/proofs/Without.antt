-- To take away an entry of one table leaves the parts of the others.
use Rattle.std.proofs.Common.{◌≡◌, ℕ, true, false, List, ap, sym, ◌∙◌}
use Rattle.sd_base.specs.Selection.{without_first}
use Rattle.sd_base.specs.History.{Entry, Key, OfBlocks, OfFrees, OfLines, OfPorts, OfDevices, OfParams, OfTimers, OfLocks, OfHolds, OfWork, OfMasks, same_resource, live_key, is_of}
use Rattle.sd_base.specs.Blocks.{Block, blocks_after}
use Rattle.sd_base.specs.Part.{Loses}
use Rattle.sd_base.proofs.Granted.{leaves, granted-without_first_other}
use Rattle.sd_base.proofs.Live.{rows-without_other, is_of-resource, apart-same}
use Rattle.claim_table.specs.ClaimRows.{ClaimRows}
use Rattle.claim_table.specs.ClaimPart.{line_row, ports_row, device_row, param_row, HoldsClaims}
use Rattle.claim_table.specs.Ordered.{in_order}
use Rattle.claim_table.proofs.Owned.{line_none, ports_none, device_none, param_none}
use Rattle.grant_table.specs.declared.blocks.BlockRow.{BlockRow}
use Rattle.grant_table.specs.GrantPart.{HoldsGrants, rows_of}
use Rattle.share_table.specs.Rows.{ShareRows}
use Rattle.share_table.specs.Table.{HoldsShares}
use Rattle.share_table.proofs.Locked.{locks-without}
use Rattle.share_table.proofs.Masked.{masks-without}
use Rattle.share_table.proofs.Held.{holds-without}
use Rattle.share_table.proofs.Queued.{work-without}
use Rattle.timer_table.specs.declared.fired.Fired.{Fired}
use Rattle.timer_table.proofs.Live.{timers-without_other}
use Rattle.timer_table.specs.Table.{HoldsTimers}
use Rattle.kernel_tables.specs.declared.kernel.Kernel.{Kernel}
use Rattle.kernel_tables.specs.Standing.{HoldsTables}

-- the key is of no block
abbrev pub NoBlock : Key → Type 0
NoBlock key = (same_resource key.resource OfBlocks ≡ false) × (same_resource key.resource OfFrees ≡ false)

-- the key is of no line, port, device or parameter
abbrev pub NoClaim : Key → Type 0
NoClaim key =
    (same_resource key.resource OfLines ≡ false) × (same_resource key.resource OfPorts ≡ false) × (same_resource key.resource OfDevices ≡ false) × (same_resource key.resource OfParams ≡ false)

abbrev pub NoTimer : Key → Type 0
NoTimer key = same_resource key.resource OfTimers ≡ false

-- the key is of no lock, mask, hold or item of work
abbrev pub NoShare : Key → Type 0
NoShare key =
    (same_resource key.resource OfLocks ≡ false) × (same_resource key.resource OfMasks ≡ false) × (same_resource key.resource OfHolds ≡ false) × (same_resource key.resource OfWork ≡ false)

removed_leaves : (owner : ℕ) (key : Key) → NoBlock key → (e : Entry) → is_of owner key e ≡ true → (blocks : List Block) → blocks_after e.update blocks ≡ blocks
removed_leaves owner key apart e is blocks =
    let same = is_of-resource owner key e is in
    leaves e.update blocks (apart-same (live_key e.update).resource key.resource OfBlocks same apart.0) (apart-same (live_key e.update).resource key.resource OfFrees same apart.1)

grants_stay : (t : List (List BlockRow)) (owner : ℕ) (key : Key) (live : List Entry) → NoBlock key → HoldsGrants t live → HoldsGrants t (without_first (is_of owner key) live)
grants_stay t owner key live apart holds = record { rows = λ p few. holds.rows p few ∙ ap rows_of (sym (granted-without_first_other (is_of owner key) (removed_leaves owner key apart) live p)) }

claims_stay : (t : ClaimRows) (owner : ℕ) (key : Key) (live : List Entry) → NoClaim key → HoldsClaims t live → HoldsClaims t (without_first (is_of owner key) live)
claims_stay t owner key live apart holds = record {
  lines = holds.lines ∙ ap in_order (sym (rows-without_other line_row OfLines line_none owner key live apart.0));
  ports = holds.ports ∙ ap in_order (sym (rows-without_other ports_row OfPorts ports_none owner key live apart.1));
  devices = holds.devices ∙ ap in_order (sym (rows-without_other device_row OfDevices device_none owner key live apart.2));
  params = holds.params ∙ ap in_order (sym (rows-without_other param_row OfParams param_none owner key live apart.3));
}

timers_stay : (t : List Fired) (owner : ℕ) (key : Key) (live : List Entry) → NoTimer key → HoldsTimers t live → HoldsTimers t (without_first (is_of owner key) live)
timers_stay t owner key live apart holds = holds ∙ sym (timers-without_other owner key live apart)

shares_stay : (t : ShareRows) (owner : ℕ) (key : Key) (live : List Entry) → NoShare key → HoldsShares t live → HoldsShares t (without_first (is_of owner key) live)
shares_stay t owner key live apart holds = record {
  locks = locks-without t.locks owner key live apart.0 holds.locks;
  masks = masks-without t.masks owner key live apart.1 holds.masks;
  holds = holds-without t.holds owner key live apart.2 holds.holds;
  work = work-without t.work owner key live apart.3 holds.work;
}

-- each table's own removal, seen of all tables

pub grants_lose : (k : Kernel) (new : List (List BlockRow)) (owner : ℕ) (key : Key) → NoClaim key → NoTimer key → NoShare key → Loses HoldsGrants k.grants owner key new → Loses HoldsTables k owner key (record k { grants = new })
grants_lose k new owner key c t s loses live sound holds = record {
  grants = loses live sound holds.grants;
  claims = claims_stay k.claims owner key live c holds.claims;
  timers = timers_stay k.timers owner key live t holds.timers;
  shares = shares_stay k.shares owner key live s holds.shares;
}

pub claims_lose : (k : Kernel) (new : ClaimRows) (owner : ℕ) (key : Key) → NoBlock key → NoTimer key → NoShare key → Loses HoldsClaims k.claims owner key new → Loses HoldsTables k owner key (record k { claims = new })
claims_lose k new owner key b t s loses live sound holds = record {
  grants = grants_stay k.grants owner key live b holds.grants;
  claims = loses live sound holds.claims;
  timers = timers_stay k.timers owner key live t holds.timers;
  shares = shares_stay k.shares owner key live s holds.shares;
}

pub timers_lose : (k : Kernel) (new : List Fired) (owner : ℕ) (key : Key) → NoBlock key → NoClaim key → NoShare key → Loses HoldsTimers k.timers owner key new → Loses HoldsTables k owner key (record k { timers = new })
timers_lose k new owner key b c s loses live sound holds = record {
  grants = grants_stay k.grants owner key live b holds.grants;
  claims = claims_stay k.claims owner key live c holds.claims;
  timers = loses live sound holds.timers;
  shares = shares_stay k.shares owner key live s holds.shares;
}

pub shares_stand : (k : Kernel) (new : ShareRows) (owner : ℕ) (key : Key) (live : List Entry) → NoBlock key → NoClaim key → NoTimer key → HoldsTables k live → HoldsShares new (without_first (is_of owner key) live) →
    HoldsTables (record k { shares = new }) (without_first (is_of owner key) live)
shares_stand k new owner key live b c t holds after = record {
  grants = grants_stay k.grants owner key live b holds.grants;
  claims = claims_stay k.claims owner key live c holds.claims;
  timers = timers_stay k.timers owner key live t holds.timers;
  shares = after;
}

pub shares_lose : (k : Kernel) (new : ShareRows) (owner : ℕ) (key : Key) → NoBlock key → NoClaim key → NoTimer key → Loses HoldsShares k.shares owner key new → Loses HoldsTables k owner key (record k { shares = new })
shares_lose k new owner key b c t loses live sound holds = shares_stand k new owner key live b c t holds (loses live sound holds.shares)
