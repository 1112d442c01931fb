use Rattle.driver_safety.proofs.assignments.Assignments.{each_assignment}
use Rattle.driver_safety.proofs.laws.every_assignment_is_sound.Goals as goal

pub returns : goal.returns
returns c = each_assignment
