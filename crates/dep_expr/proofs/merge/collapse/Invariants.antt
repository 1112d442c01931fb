use Rattle.std.proofs.Common.{◌≡◌, ◌*◌, ◌^◌, ◌++◌, drop, pos, neg_ℤ, ◌≤ℤ◌}
use Rattle.dep_expr.specs.Merged.{collapsed_from, collapsed}
use Rattle.dep_expr.proofs.merge.collapse.Given as goal

-- what is done and the runs of what is left make up the result, and the open sum is within 2^63 a term
abbrev pub invariant-loop-term : goal.invariant-loop-term
invariant-loop-term l = record {
  result : l.form.items ++ collapsed_from l.sum l.atom (drop l.term-index l.terms) ≡ collapsed l.terms;
  low : neg_ℤ (pos (l.term-index * 2 ^ 63)) ≤ℤ l.sum;
  high : l.sum ≤ℤ pos (l.term-index * 2 ^ 63);
}
