use Rattle.light_checks.proofs.Derivations.{condition_numbers}
use Rattle.light_checks.proofs.laws.a_condition_has_numbers.Goals as goal

pub returns : goal.returns
returns c = condition_numbers
