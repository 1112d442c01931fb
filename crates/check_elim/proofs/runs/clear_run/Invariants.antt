use Rattle.std.proofs.Common.{◌-◌, ◌≡◌, ◌⊎◌, ℕ, ◌≤◌, if◌then◌else◌, length, false}
use Rattle.check_elim.specs.Bits.{has}
use Rattle.check_elim.proofs.Clearing.{in_run}
use Rattle.check_elim.proofs.runs.clear_run.Given as goal

abbrev pub invariant-loop-number : goal.invariant-loop-number
invariant-loop-number l =
    (l.from ≤ l.number)
    × (length l.words ≡ length l.fn.words)
    × ((l.number ≡ l.from) ⊎ (l.number ≤ l.to))
    × ((j : ℕ) → has l.words j ≡ (if in_run l.from l.number j then false else has l.fn.words j))

abbrev pub decreases-loop-number : goal.decreases-loop-number
decreases-loop-number l = l.to - l.number
