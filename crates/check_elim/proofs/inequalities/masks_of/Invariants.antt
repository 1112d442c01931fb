use Rattle.std.proofs.Common.{◌≡◌, ℕ, ◌<◌, length, slice_get}
use Rattle.check_elim.specs.Bits.{has}
use Rattle.check_elim.specs.Sets.{IsMask, mask_at}
use Rattle.check_elim.specs.Tables.{has_pair}
use Rattle.check_elim.proofs.inequalities.masks_of.Given as goal

abbrev pub invariant-loop-slot : goal.invariant-loop-slot
invariant-loop-slot l =
    (length l.masks.items ≡ l.slot)
    × ((slot : ℕ) → IsMask l.size (slice_get l.masks.items slot))
    × ((slot j : ℕ) → slot < l.slot → has (mask_at l.masks.items slot) j ≡ has_pair slot j l.pairs)
