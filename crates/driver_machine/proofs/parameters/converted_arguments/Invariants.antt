use Rattle.std.proofs.Common.{◌≡◌, ◌++◌, All, IsTrue, drop, ℤ}
use Rattle.arrayvec.specs.ArrayVec.{array_vec_len}
use Rattle.checked_tree.specs.Numbers.{is_value}
use Rattle.checked_tree.specs.Step.{converted_arguments}
use Rattle.driver_machine.proofs.parameters.converted_arguments.Given as goal

abbrev pub invariant-loop-argument : goal.invariant-loop-argument
invariant-loop-argument l = record {
  same :
      l.values.items ++ converted_arguments (drop l.argument-index l.arguments) (drop l.argument-index l.slots)
      ≡ converted_arguments l.fn.arguments l.fn.slots;
  long : array_vec_len l.values ≡ l.argument-index;
  words : All (λ (z : ℤ). IsTrue (is_value z)) l.values.items;
}
