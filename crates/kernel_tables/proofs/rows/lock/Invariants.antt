use Rattle.std.proofs.Common.{pos}
use Rattle.share_table.specs.Locks.{lock_at}
use Rattle.kernel_tables.specs.TableRows.{lock_row}
use Rattle.kernel_tables.proofs.Looking.{IsLeft}
use Rattle.kernel_tables.proofs.rows.lock.Given as goal

abbrev pub invariant-loop-lock : goal.invariant-loop-lock
invariant-loop-lock l = IsLeft (λ lock. lock_row lock (lock_at l.shares.locks (pos lock))) l.lock 64 l.left l.k
