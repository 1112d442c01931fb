use Rattle.std.proofs.Common.{◌≡◌, ◌++◌, map, take, drop}
use Rattle.driver_machine.specs.Machines.{dropped}
use Rattle.driver_machine.proofs.machine.drop_rows.Given as goal

abbrev pub invariant-loop-task : goal.invariant-loop-task
invariant-loop-task l = l.tasks ≡ map (dropped l.owner) (take l.task-index l.fn.tasks) ++ drop l.task-index l.fn.tasks
