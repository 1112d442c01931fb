use Rattle.light_checks.proofs.Refusals.{condition_refused}
use Rattle.light_checks.proofs.laws.a_refused_condition_has_no_rule.Goals as goal

pub returns : goal.returns
returns c = λ u t f r line x before e is short refused. condition_refused u t f r is line x before e short refused
