use Rattle.std.proofs.Common.{map, get_or, []}
use Rattle.kernel_tables.specs.TableRows.{block_row}
use Rattle.kernel_tables.proofs.Looking.{IsLeft}
use Rattle.kernel_tables.proofs.rows.block.Given as goal

abbrev pub invariant-loop-owner : goal.invariant-loop-owner
invariant-loop-owner l = IsLeft (λ owner. map (block_row owner) (get_or l.grants owner [])) l.owner 5 l.left l.k
