use Rattle.sd_base.proofs.WithoutOwner.{IsLawful-Without}
use Rattle.sd_base.proofs.laws.others_history_is_lawful.Goals as goal

pub returns : goal.returns
returns c = λ h owner some proper lawful. IsLawful-Without h owner some proper lawful
