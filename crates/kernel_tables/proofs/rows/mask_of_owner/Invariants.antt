use Rattle.share_table.specs.Masks.{mask_at}
use Rattle.kernel_tables.specs.TableRows.{mask_row}
use Rattle.kernel_tables.proofs.Looking.{IsLeft}
use Rattle.kernel_tables.proofs.rows.mask_of_owner.Given as goal

abbrev pub invariant-loop-task : goal.invariant-loop-task
invariant-loop-task l = IsLeft (λ task. mask_row l.owner task (mask_at l.shares.masks l.owner task)) l.task 9 l.left l.k
