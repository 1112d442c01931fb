use Rattle.std.proofs.Common.{arith}
use Rattle.kernel_tables.specs.TableRows.{block_row}
use Rattle.kernel_tables.proofs.Looking.{at_place, past_place}
use Rattle.kernel_tables.proofs.rows.block_of.Goals as goal

pub returns-then-place-blocks : goal.returns-then-place-blocks
returns-then-place-blocks c = past_place (block_row c.args.owner) c.args.blocks.now c.args.k c.if-place-blocks.true

pub returns : goal.returns
returns c = at_place (block_row c.args.owner) c.args.blocks.now c.args.k _ (omega arith)
