use Rattle.std.proofs.Common.{◌≡◌, ◌++◌, map, take, drop}
use Rattle.dep_expr.specs.Normed.{divided_term}
use Rattle.dep_expr.proofs.divide.divide.Given as goal

abbrev pub invariant-loop-term : goal.invariant-loop-term
invariant-loop-term l = l.terms ≡ map (divided_term l.by) (take l.term-index l.fn.terms) ++ drop l.term-index l.fn.terms
