use Rattle.std.proofs.Common.{◌≡◌, ℕ, ◌<◌, false, slice_index_or}
use Rattle.checked_tree.specs.declared.expressions.CheckedExpr.{CheckedExpr, out-CheckedExpr}
use Rattle.checked_tree.specs.Redundant.{is_slot, local_slot}
use Rattle.check_elim.proofs.over_atoms.atom.Given as goal

abbrev pub invariant-loop-number : goal.invariant-loop-number
invariant-loop-number l = (k : ℕ) (d : CheckedExpr) → k < l.number → is_slot l.slot (local_slot (out-CheckedExpr (slice_index_or l.f.atoms k d))) ≡ false
