use Rattle.std.proofs.Common.{◌≡◌, ◌^◌, ◌<◌, length}
use Rattle.c_tree.specs.Numbers.{is_digit_of}
use Rattle.c_token.specs.Scans.{rest_of, scanned_value}
use Rattle.c_token.proofs.numbers.digits.Given as goal

abbrev pub invariant-loop-rest : goal.invariant-loop-rest
invariant-loop-rest l = record {
  value : scanned_value l.radix l.value l.rest ≡ scanned_value l.radix 0 l.fn.text;
  rest : rest_of (is_digit_of l.radix) l.rest ≡ rest_of (is_digit_of l.radix) l.fn.text;
  bound : l.value < 2 ^ 40;
}

abbrev pub decreases-loop-rest : goal.decreases-loop-rest
decreases-loop-rest l = length l.rest
