use Rattle.std.proofs.Common.{sym, ◌∙◌, arith}
use Rattle.world.proofs.Orders.{none-first, none-next, none-all}
use Rattle.world.proofs.leaving.busy_task.Goals as goal

pub loop-task-init : goal.loop-task-init
loop-task-init c = none-first c.args.machine.now c.args.owner

pub loop-task-preserved : goal.loop-task-preserved
loop-task-preserved c = none-next c.args.machine.now c.args.owner c.loop-task.task c.loop-task.invariant (sym c.is_of.ensures ∙ c.if-is_of.false)

pub returns : goal.returns
returns c = none-all c.args.machine.now c.args.owner c.loop-task.task (λ below. omega (arith, below, c.loop-task-test.false)) c.loop-task.invariant
