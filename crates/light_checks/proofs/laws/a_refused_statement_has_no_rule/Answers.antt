use Rattle.light_checks.proofs.Refusals.{statement_refused}
use Rattle.light_checks.proofs.laws.a_refused_statement_has_no_rule.Goals as goal

pub returns : goal.returns
returns c = λ u t f r s before e is short refused. statement_refused u t f r is s before e short refused
