use Rattle.light_checks.proofs.Numbered.{numbers_of}
use Rattle.light_checks.proofs.laws.light_checks_have_numbers.Goals as goal

pub returns : goal.returns
returns c = numbers_of
