use Rattle.machine_tests.proofs.Belongings.{dropped_all}
use Rattle.machine_tests.proofs.runs.drop_owner.Goals as goal

pub returns : goal.returns
returns c = dropped_all c.args.driver.now.unit c.args.rig.now.machine c.drop_owner.new.self c.requires c.args.owner c.drop_owner.ensures
