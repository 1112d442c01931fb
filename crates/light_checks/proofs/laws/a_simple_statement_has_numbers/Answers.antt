use Rattle.light_checks.proofs.Derivations.{statement_numbers}
use Rattle.light_checks.proofs.laws.a_simple_statement_has_numbers.Goals as goal

pub returns : goal.returns
returns c = statement_numbers
