use Rattle.std.proofs.Common.{sym, ◌∙◌, arith}
use Rattle.share_table.specs.Masks.{mask_at}
use Rattle.kernel_tables.specs.TableRows.{mask_row}
use Rattle.kernel_tables.proofs.Looking.{left_all, left_at, left_past, left_none}
use Rattle.kernel_tables.proofs.rows.mask_of_owner.Goals as goal

pub loop-task-init : goal.loop-task-init
loop-task-init c = left_all (λ task. mask_row c.args.owner task (mask_at c.args.shares.now.masks c.args.owner task)) 9 c.args.k

pub returns-in-At : goal.returns-in-At
returns-in-At c = left_at (λ task. mask_row c.args.owner task (mask_at c.args.shares.now.masks c.args.owner task)) c.loop-task.task 9 c.loop-task.left c.args.k c.in-At.row c.loop-task-test.true c.loop-task.invariant (sym c.mask_of.ensures ∙ c.in-At.is)

pub loop-task-preserved : goal.loop-task-preserved
loop-task-preserved c = left_past (λ task. mask_row c.args.owner task (mask_at c.args.shares.now.masks c.args.owner task)) c.loop-task.task 9 c.loop-task.left c.args.k c.in-Past.past c.loop-task-test.true c.loop-task.invariant (sym c.mask_of.ensures ∙ c.in-Past.is)

pub returns : goal.returns
returns c = left_none (λ task. mask_row c.args.owner task (mask_at c.args.shares.now.masks c.args.owner task)) c.loop-task.task 9 c.loop-task.left c.args.k (omega arith) c.loop-task.invariant
