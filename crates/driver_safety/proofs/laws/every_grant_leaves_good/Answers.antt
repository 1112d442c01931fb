use Rattle.driver_safety.proofs.steps.Answers.{each_grant}
use Rattle.driver_safety.proofs.laws.every_grant_leaves_good.Goals as goal

pub returns : goal.returns
returns c = each_grant
