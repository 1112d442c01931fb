use Rattle.driver_safety.proofs.steps.StayingInside.{each_step_inside}
use Rattle.driver_safety.proofs.laws.every_step_stays_inside.Goals as goal

pub returns : goal.returns
returns c = each_step_inside
