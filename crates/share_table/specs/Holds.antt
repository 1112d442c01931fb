-- How many holds each owner has on each power domain.
use Rattle.std.specs.Prelude.{◌≡◌, ℕ, ◌+◌, ◌*◌, ◌≤◌, cond, ltb, List, length, ℤ, pos, negsuc, count_by, slice_index_or}
use Rattle.sd_base.specs.History.{Entry, hold_key, is_of}

-- an owner's holds on a domain, by what the table has in its place
abbrev pub holds_at : List ℕ → ℕ → ℤ → ℕ
holds_at counts owner (pos k) = cond (ltb k 64) (slice_index_or counts (owner * 64 + k) 0) 0
holds_at counts owner (negsuc k) = 0

-- the table holds its part of what is live: for each owner and domain, how many holds there are
abbrev pub HoldsHolds : List ℕ → List Entry → Type 0
HoldsHolds counts live = (owner : ℕ) (domain : ℤ) → holds_at counts owner domain ≡ count_by (is_of owner (hold_key domain)) live

-- the holds of all owners on a domain
abbrev pub held_by_all : List ℕ → ℤ → ℕ
held_by_all counts domain =
    holds_at counts 0 domain + holds_at counts 1 domain + holds_at counts 2 domain + holds_at counts 3 domain + holds_at counts 4 domain

-- a count for each of 5 owners and 64 domains, and none above 8
pub record IsCounts (counts : List ℕ) : Type 0 where
  pub places : length counts ≡ 320
  pub few : (place : ℕ) → slice_index_or counts place 0 ≤ 8
