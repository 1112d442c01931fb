use Rattle.std.proofs.Common.{◌≡◌, drop}
use Rattle.dep_expr.specs.Normed.{divisor_from, divisor_of}
use Rattle.dep_expr.proofs.divide.common_divisor.Given as goal

abbrev pub invariant-loop-term : goal.invariant-loop-term
invariant-loop-term l = divisor_from l.divisor (drop l.term-index l.terms) ≡ divisor_of l.terms
