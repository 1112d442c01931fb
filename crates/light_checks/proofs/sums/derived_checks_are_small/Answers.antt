use Rattle.light_checks.proofs.SmallChecks.{unit_small}
use Rattle.light_checks.proofs.sums.derived_checks_are_small.Goals as goal

pub returns : goal.returns
returns c = λ u t unit is. unit_small u t unit is
