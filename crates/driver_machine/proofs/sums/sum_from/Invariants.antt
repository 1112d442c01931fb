use Rattle.std.proofs.Common.{◌≡◌, ◌<◌, drop, unsigned_abs}
use Rattle.checked_tree.specs.Conditions as spec
use Rattle.checked_tree.specs.Numbers.{sum_limit}
use Rattle.driver_machine.proofs.sums.sum_from.Given as goal

abbrev pub invariant-loop-term : goal.invariant-loop-term
invariant-loop-term l = record {
  same : spec.sum_from l.atoms l.s (drop l.term-index l.terms) l.sum ≡ spec.sum_from l.fn.atoms l.fn.s l.fn.terms l.fn.first;
  small : unsigned_abs l.sum < sum_limit;
}
