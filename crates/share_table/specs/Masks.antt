-- Which activities hold interrupts off.
use Rattle.std.specs.Prelude.{◌≡◌, ℕ, ◌+◌, ◌*◌, Bool, false, cond, ltb, List, slice_index_or}
use Rattle.std.specs.List.{list_any}
use Rattle.sd_base.specs.History.{Entry, OfMasks, same_resource, live_key, mask_key, is_of}

-- the owner's activity holds interrupts off, by what the table has in its place
abbrev pub mask_at : List Bool → ℕ → ℕ → Bool
mask_at masks owner task = cond (ltb task 9) (slice_index_or masks (owner * 9 + task) false) false

-- the table holds its part of what is live: for each owner and task, whether its mask is held
abbrev pub HoldsMasks : List Bool → List Entry → Type 0
HoldsMasks masks live = (owner task : ℕ) → mask_at masks owner task ≡ list_any (is_of owner (mask_key task)) live

-- some activity holds interrupts off
abbrev pub any_held : List Bool → Bool
any_held masks = list_any (λ held. held) masks

-- a live entry that holds interrupts off
abbrev pub is_mask : Entry → Bool
is_mask e = same_resource (live_key e.update).resource OfMasks
