use Rattle.light_checks.proofs.Units.{unit_refused}
use Rattle.light_checks.proofs.laws.a_refused_unit_has_its_reason.Goals as goal

pub returns : goal.returns
returns c = λ u t e short table refused. unit_refused u t short table e refused
