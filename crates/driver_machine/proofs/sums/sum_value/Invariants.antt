use Rattle.std.proofs.Common.{◌≡◌, ◌<◌, drop, unsigned_abs}
use Rattle.checked_tree.specs.Operands as operands
use Rattle.checked_tree.specs.Numbers.{sum_limit}
use Rattle.driver_machine.proofs.sums.sum_value.Given as goal

abbrev pub invariant-loop-part : goal.invariant-loop-part
invariant-loop-part l = record {
  same : operands.parts_from l.s (drop l.part-index l.sum.parts) l.total ≡ operands.sum_value l.fn.s l.fn.sum;
  small : unsigned_abs l.total < sum_limit;
}
