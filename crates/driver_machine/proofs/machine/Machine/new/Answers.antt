use Rattle.driver_machine.proofs.MachineLaws.{none_live}
use Rattle.driver_machine.proofs.machine.Machine.new.Goals as goal

pub returns : goal.returns
returns c = none_live c.in_ok-tasks.tasks.items c.in_ok-tasks.ensures.idle
