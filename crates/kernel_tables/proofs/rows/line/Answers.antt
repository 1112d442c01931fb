use Rattle.std.proofs.Common.{rules, arith}
use Rattle.kernel_tables.specs.TableRows.{line_row}
use Rattle.kernel_tables.proofs.Looking.{at_row, past_place}
use Rattle.kernel_tables.proofs.rows.line.Goals as goal

pub returns-then-place-lines : goal.returns-then-place-lines
returns-then-place-lines c = past_place line_row c.args.lines.now c.args.k c.if-place-lines.true

pub returns : goal.returns
returns c = at_row line_row c.args.lines.now c.args.k (record { owner = 0; number = 0; detail = 0 }) _ (omega arith) (search rules)
