use Rattle.std.proofs.Common.{pos, rules, arith}
use Rattle.kernel_tables.specs.TableRows.{param_row}
use Rattle.kernel_tables.proofs.Looking.{at_row, past_place}
use Rattle.kernel_tables.proofs.rows.param.Goals as goal

pub returns-then-place-params : goal.returns-then-place-params
returns-then-place-params c = past_place param_row c.args.params.now c.args.k c.if-place-params.true

pub returns : goal.returns
returns c = at_row param_row c.args.params.now c.args.k (record { owner = 0; number = 0; detail = pos 0 }) _ (omega arith) (search rules)
