use Rattle.driver_safety.proofs.steps.EachRun.{each_run}
use Rattle.driver_safety.proofs.laws.every_run_is_safe.Goals as goal

pub returns : goal.returns
returns c = each_run
