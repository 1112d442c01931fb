use Rattle.std.proofs.Common.{◌≡◌, ◌+◌, ◌*◌, ◌^◌, drop, pos, ◌+ℤ◌, neg_ℤ, ◌≤ℤ◌}
use Rattle.dep_expr.specs.Linear.{numbers_at, terms_value}
use Rattle.dep_expr.proofs.terms.value_plus.Given as goal

-- the value of what is left and the sum so far make up the value, and the sum is within 2^100 and 2^95 a term
abbrev pub invariant-loop-term : goal.invariant-loop-term
invariant-loop-term l = record {
  value : terms_value (drop l.term-index l.terms) (numbers_at l.at) +ℤ l.sum ≡ terms_value l.terms (numbers_at l.at) +ℤ l.constant;
  low : neg_ℤ (pos (2 ^ 100 + l.term-index * 2 ^ 95)) ≤ℤ l.sum;
  high : l.sum ≤ℤ pos (2 ^ 100 + l.term-index * 2 ^ 95);
}
