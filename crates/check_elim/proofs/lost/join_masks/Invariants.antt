use Rattle.std.proofs.Common.{◌≡◌, ℕ, ◌||◌, length, drop}
use Rattle.std.specs.List.{list_any}
use Rattle.check_elim.specs.Bits.{has}
use Rattle.check_elim.specs.Sets.{mask_at}
use Rattle.check_elim.proofs.lost.join_masks.Given as goal

abbrev pub invariant-loop-slot : goal.invariant-loop-slot
invariant-loop-slot l =
    (length l.words ≡ length l.fn.words)
    × ((j : ℕ) → (has l.words j || list_any (λ slot. has (mask_at l.masks slot) j) (drop l.slot-index l.slots)) ≡ (has l.fn.words j || list_any (λ slot. has (mask_at l.masks slot) j) l.slots))
