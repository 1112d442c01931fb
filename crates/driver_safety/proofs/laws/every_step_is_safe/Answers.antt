use Rattle.driver_safety.proofs.steps.UnitSteps.{each_step}
use Rattle.driver_safety.proofs.laws.every_step_is_safe.Goals as goal

pub returns : goal.returns
returns c = each_step
