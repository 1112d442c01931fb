use Rattle.std.proofs.Common.{pos}
use Rattle.share_table.specs.Holds.{held_by_all}
use Rattle.kernel_tables.specs.TableRows.{hold_row}
use Rattle.kernel_tables.proofs.Looking.{IsLeft}
use Rattle.kernel_tables.proofs.rows.hold.Given as goal

abbrev pub invariant-loop-domain : goal.invariant-loop-domain
invariant-loop-domain l = IsLeft (λ domain. hold_row domain (held_by_all l.shares.holds (pos domain))) l.domain 64 l.left l.k
