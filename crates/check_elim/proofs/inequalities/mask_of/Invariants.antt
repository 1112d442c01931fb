use Rattle.std.proofs.Common.{◌≡◌, ℕ, ◌||◌, length, drop}
use Rattle.check_elim.specs.Bits.{has}
use Rattle.check_elim.specs.Tables.{has_pair}
use Rattle.check_elim.proofs.inequalities.mask_of.Given as goal

abbrev pub invariant-loop-pair : goal.invariant-loop-pair
invariant-loop-pair l =
    (length l.mask.items ≡ l.size) × ((j : ℕ) → (has l.mask.items j || has_pair l.slot j (drop l.pair-index l.pairs)) ≡ has_pair l.slot j l.pairs)
