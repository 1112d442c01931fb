use Rattle.std.proofs.Common.{◌≡◌, ◌+◌, ◌++◌, All, IsTrue, length, pos, replicate, take, ℤ}
use Rattle.arrayvec.specs.ArrayVec.{array_vec_len}
use Rattle.checked_tree.specs.Numbers.{is_value}
use Rattle.driver_machine.proofs.frame.put_first_slots.Given as goal

abbrev pub invariant-loop-value : goal.invariant-loop-value
invariant-loop-value l = record {
  same : l.locals.items ≡ take l.value-index l.values;
  long : array_vec_len l.locals ≡ l.value-index;
}

abbrev pub invariant-loop : goal.invariant-loop
invariant-loop l = record {
  same : l.locals.items ≡ l.values ++ replicate l.counter (pos 0);
  long : array_vec_len l.locals ≡ length l.values + l.counter;
  words : All (λ (z : ℤ). IsTrue (is_value z)) l.locals.items;
}
