use Rattle.light_checks.proofs.Bodies.{function_tells}
use Rattle.light_checks.proofs.laws.a_refused_body_has_a_line_without_rule.Goals as goal

pub returns : goal.returns
returns c = λ u t f r e is refused. function_tells u t f r is e refused
