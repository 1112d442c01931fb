use Rattle.driver_front.proofs.OneVerdict.{verdict_once}
use Rattle.driver_front.proofs.laws.one_verdict.Goals as goal

pub returns : goal.returns
returns c = λ t a b d e. verdict_once d e
