-- Each task of a new machine belongs to the driver.
use Rattle.machine_tests.proofs.Belongings.{none_belong}
use Rattle.machine_tests.proofs.runs.rig_of.Goals as goal

pub returns : goal.returns
returns c = none_belong _ _ c.in_ok-machine.ensures
