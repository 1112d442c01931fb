use Rattle.std.proofs.Common.{◌≡◌, ◌++◌, map, take}
use Rattle.dep_expr.specs.Linear.{scaled_term}
use Rattle.dep_expr.proofs.terms.append_scaled.Given as goal

abbrev pub invariant-loop-term : goal.invariant-loop-term
invariant-loop-term l = l.to.items ≡ l.fn.to.items ++ map (scaled_term l.by) (take l.term-index l.terms)
