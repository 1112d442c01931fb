use Rattle.light_checks.proofs.Derivations.{expression_numbers}
use Rattle.light_checks.proofs.laws.an_expression_has_numbers.Goals as goal

pub returns : goal.returns
returns c = expression_numbers
