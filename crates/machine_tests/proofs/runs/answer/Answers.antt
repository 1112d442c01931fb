use Rattle.machine_tests.proofs.Belongings.{one_changed}
use Rattle.machine_tests.proofs.runs.answer.Goals as goal

pub answer-requires-clause-belongs : goal.answer-requires-clause-belongs
answer-requires-clause-belongs c = c.requires.belongs c.args.task

pub returns : goal.returns
returns c = one_changed c.args.driver.now.unit c.args.rig.now.machine c.answer.new.self c.requires.belongs c.args.task c.answer.ensures.others c.answer.ensures.belongs
