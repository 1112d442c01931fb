use Rattle.std.proofs.Common.{◌≡◌, take}
use Rattle.dep_expr.specs.Linear.{number_form, plus_parts}
use Rattle.dep_expr.proofs.linear.Lin.substitute.Given as goal

abbrev pub invariant-loop-term : goal.invariant-loop-term
invariant-loop-term l = l.sum ≡ plus_parts l.a l.by (number_form l.self.constant) (take l.term-index l.self.terms)
