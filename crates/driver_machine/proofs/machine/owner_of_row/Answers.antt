use Rattle.std.proofs.Common.{◌∙◌}
use Rattle.driver_machine.proofs.MachineLaws.{owner_found, owner_missing}
use Rattle.driver_machine.proofs.machine.owner_of_row.Goals as goal

pub returns-in-Some : goal.returns-in-Some
returns-in-Some c = c.owner.ensures ∙ owner_found c.args.tasks.now c.args.at c.in-Some.task.now c.in-Some.ensures

pub returns-in-None : goal.returns-in-None
returns-in-None c = owner_missing c.args.tasks.now c.args.at c.in-None.ensures
