use Rattle.machine_tests.proofs.Belongings.{started_all}
use Rattle.machine_tests.proofs.runs.start.Goals as goal

pub returns : goal.returns
returns c =
    started_all c.args.driver.now.unit c.args.rig.now.machine c.start.new.self c.requires.belongs _ c.args.who.task c.args.function c.args.arguments.now c.start.result
    c.start.ensures.starts c.start.ensures.others
