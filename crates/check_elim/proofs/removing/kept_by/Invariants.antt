use Rattle.std.proofs.Common.{◌≡◌, ℕ, ◌-◌, ◌≤◌, true, not, length, slice_index_or}
use Rattle.check_elim.specs.Redundancy.{redundant}
use Rattle.check_elim.proofs.removing.kept_by.Given as goal

abbrev pub invariant-loop-place : goal.invariant-loop-place
invariant-loop-place l = (length l.kept.items ≡ l.place) × ((id : ℕ) → 1 ≤ id → id ≤ l.place → slice_index_or l.kept.items (id - 1) true ≡ not (redundant l.f id))
