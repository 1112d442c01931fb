-- The table's part of a history: of each owner the blocks that the history grants.
use Rattle.std.specs.Prelude.{◌≡◌, ℕ, ◌≤◌, List, [], get_or, reverse, map, Option, Some, None, Result, Ok, Err}
use Rattle.sd_base.specs.declared.history.Refusal.{Refusal}
use Rattle.sd_base.specs.declared.history.Refusal.TheVariants.{NoRoom, NotBlock as IsNoBlock, Freed as IsFreed}
use Rattle.sd_base.specs.History.{Entry, History, live_of}
use Rattle.sd_base.specs.Blocks.{Block, block_size, granted}
use Rattle.sd_base.specs.Allowed.{IsLawful, IsProper}
use Rattle.grant_table.specs.declared.blocks.BlockRow.{BlockRow}
use Rattle.grant_table.specs.declared.blocks.ReleaseRefusal.{ReleaseRefusal}
use Rattle.grant_table.specs.declared.blocks.ReleaseRefusal.TheVariants.{NotBlock, Freed}

abbrev pub block_row : Block → BlockRow
block_row b = record { base = b.base; size = block_size b; state = b.state }

-- the rows of blocks of which the newest stands first, by their bases
abbrev pub rows_of : List Block → List BlockRow
rows_of blocks = reverse (map block_row blocks)

-- the table holds its part of what is live: of each owner the rows of the blocks that are granted
pub record HoldsGrants (t : List (List BlockRow)) (live : List Entry) : Type 0 where
  pub rows : (owner : ℕ) → owner ≤ 4 → get_or t owner [] ≡ rows_of (granted live owner)

-- a block that is not granted has no room
abbrev pub no_room : Option ℕ → Option Refusal
no_room None = Some NoRoom
no_room (Some base) = None

abbrev pub not_released : Result (Unit {0}) ReleaseRefusal → Option Refusal
not_released (Ok done) = None
not_released (Err NotBlock) = Some IsNoBlock
not_released (Err Freed) = Some IsFreed

-- what is said of every lawful history, whatever its share, of which the table holds its part
abbrev pub OfEachHistory : List (List BlockRow) → (History → Type 0) → Type 0
OfEachHistory t P = (share : ℕ) (h : History) → IsLawful share h → IsProper h → HoldsGrants t (live_of h) → P h
