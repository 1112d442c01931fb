-- No task before this one has an activity of the driver.
use Rattle.world.proofs.Orders.{NoneBefore}
use Rattle.world.proofs.leaving.busy_task.Given as goal

abbrev pub invariant-loop-task : goal.invariant-loop-task
invariant-loop-task l = NoneBefore l.machine l.owner l.task
