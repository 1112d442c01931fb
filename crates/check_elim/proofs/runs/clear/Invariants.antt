use Rattle.std.proofs.Common.{◌≡◌, ℕ, ◌&&◌, nat_lt, if◌then◌else◌, length, false, slice_get}
use Rattle.check_elim.specs.Bits.{has}
use Rattle.check_elim.specs.Sets.{gives_in}
use Rattle.check_elim.proofs.runs.clear.Given as goal

abbrev pub invariant-loop-number : goal.invariant-loop-number
invariant-loop-number l =
    (length l.words ≡ length l.fn.words)
    × ((j : ℕ) → has l.words j ≡ (if gives_in l.strong (slice_get l.table.facts.items j) && nat_lt j l.number then false else has l.fn.words j))
