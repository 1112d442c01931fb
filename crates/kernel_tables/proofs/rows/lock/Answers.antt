use Rattle.std.proofs.Common.{pos, sym, ◌∙◌, arith}
use Rattle.share_table.specs.Locks.{lock_at}
use Rattle.kernel_tables.specs.TableRows.{lock_row}
use Rattle.kernel_tables.proofs.Looking.{left_all, left_at, left_past, left_none}
use Rattle.kernel_tables.proofs.rows.lock.Goals as goal

pub loop-lock-init : goal.loop-lock-init
loop-lock-init c = left_all (λ lock. lock_row lock (lock_at c.args.shares.now.locks (pos lock))) 64 c.args.k

pub returns-in-At : goal.returns-in-At
returns-in-At c = left_at (λ lock. lock_row lock (lock_at c.args.shares.now.locks (pos lock))) c.loop-lock.lock 64 c.loop-lock.left c.args.k c.in-At.row c.loop-lock-test.true c.loop-lock.invariant (sym c.lock_of.ensures ∙ c.in-At.is)

pub loop-lock-preserved : goal.loop-lock-preserved
loop-lock-preserved c = left_past (λ lock. lock_row lock (lock_at c.args.shares.now.locks (pos lock))) c.loop-lock.lock 64 c.loop-lock.left c.args.k c.in-Past.past c.loop-lock-test.true c.loop-lock.invariant (sym c.lock_of.ensures ∙ c.in-Past.is)

pub returns : goal.returns
returns c = left_none (λ lock. lock_row lock (lock_at c.args.shares.now.locks (pos lock))) c.loop-lock.lock 64 c.loop-lock.left c.args.k (omega arith) c.loop-lock.invariant
