use Rattle.std.proofs.Common.{◌≡◌, ℕ, ◌≤◌, drop}
use Rattle.check_elim.specs.Tables.{has_pair}
use Rattle.check_elim.proofs.inequalities.slots_end.Given as goal

abbrev pub invariant-loop-pair : goal.invariant-loop-pair
invariant-loop-pair l = (slot j : ℕ) → l.end ≤ slot → has_pair slot j l.pairs ≡ has_pair slot j (drop l.pair-index l.pairs)
