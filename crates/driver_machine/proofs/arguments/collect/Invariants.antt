use Rattle.std.proofs.Common.{◌≡◌, [], ◌++◌, All, IsTrue, Ok, drop, ℤ}
use Rattle.arrayvec.specs.ArrayVec.{array_vec_len}
use Rattle.checked_tree.specs.Numbers.{is_value}
use Rattle.checked_tree.specs.Operands as spec
use Rattle.checked_tree.specs.Outcome.{◌>>=◌}
use Rattle.driver_machine.proofs.arguments.collect.Given as goal

abbrev pub invariant-loop-value : goal.invariant-loop-value
invariant-loop-value l = record {
  same : spec.arguments [] l.fn.f l.fn.s l.fn.values ≡ (spec.arguments [] l.f l.s (drop l.value-index l.values) >>= λ more. Ok (l.out.items ++ more));
  long : array_vec_len l.out ≡ l.value-index;
  words : All (λ (z : ℤ). IsTrue (is_value z)) l.out.items;
}
