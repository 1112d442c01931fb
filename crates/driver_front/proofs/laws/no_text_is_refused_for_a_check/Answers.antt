use Rattle.driver_front.proofs.Grounded.{refused_on_grounds}
use Rattle.driver_front.proofs.laws.no_text_is_refused_for_a_check.Goals as goal

pub returns : goal.returns
returns c = λ t r v. refused_on_grounds t r v
