use Rattle.machine_tests.proofs.Belongings.{one_changed}
use Rattle.machine_tests.proofs.runs.step.Goals as goal

pub step-requires-clause-belongs : goal.step-requires-clause-belongs
step-requires-clause-belongs c = c.requires.belongs c.args.task

pub returns : goal.returns
returns c = one_changed c.args.driver.now.unit c.args.rig.now.machine c.step.new.self c.requires.belongs c.args.task c.step.ensures.others c.step.ensures.belongs
