use Rattle.std.proofs.Common.{◌≡◌, ℕ, ◌<◌, ◌≤◌, length, slice_index_or}
use Rattle.std.specs.Prelude.{bit_or}
use Rattle.check_elim.proofs.words.join.Given as goal

abbrev pub invariant-loop-at : goal.invariant-loop-at
invariant-loop-at l =
    (length l.words ≡ length l.fn.words)
    × ((j : ℕ) → j < l.at → slice_index_or l.words j 0 ≡ bit_or (slice_index_or l.fn.words j 0) (slice_index_or l.other j 0))
    × ((j : ℕ) → l.at ≤ j → slice_index_or l.words j 0 ≡ slice_index_or l.fn.words j 0)
