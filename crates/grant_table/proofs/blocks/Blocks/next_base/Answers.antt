use Rattle.std.proofs.Common.{◌≡◌, ◌-◌, ◌≤◌, get_or, sym, ap, ◌∙◌, rules, arith}
use Rattle.sd_base.specs.Blocks.{round_up}
use Rattle.grant_table.specs.declared.blocks.BlockRow.{BlockRow}
use Rattle.grant_table.specs.BlockRows.{row_end, next_base_of}
use Rattle.grant_table.proofs.Arena.{last_end, last_next, round_le}
use Rattle.grant_table.proofs.blocks.Blocks.next_base.Goals as goal

pub overflow_add-result : goal.overflow_add-result
overflow_add-result c =
    let end : row_end c.index-last.result.now ≤ 1048576 = last_end c.self.inside.rows.items (c.len-len.result - 1) c.index-last.result.now (omega arith) (search rules) c.self.invariant.2 in
    omega arith

pub overflow_add-result-2 : goal.overflow_add-result-2
overflow_add-result-2 c =
    let end : row_end c.index-last.result.now ≤ 1048576 = last_end c.self.inside.rows.items (c.len-len.result - 1) c.index-last.result.now (omega arith) (search rules) c.self.invariant.2 in
    omega arith

pub overflow_mul-result : goal.overflow_mul-result
overflow_mul-result c =
    let end : row_end c.index-last.result.now ≤ 1048576 = last_end c.self.inside.rows.items (c.len-len.result - 1) c.index-last.result.now (omega arith) (search rules) c.self.invariant.2 in
    omega (arith, round_le (row_end c.index-last.result.now) end)

pub returns-clause-fits : goal.returns-clause-fits
returns-clause-fits c =
    round_le (row_end c.index-last.result.now) (last_end c.self.inside.rows.items (c.len-len.result - 1) c.index-last.result.now (omega arith) (search rules) c.self.invariant.2)

pub returns-clause-base : goal.returns-clause-base
returns-clause-base c =
    let last : c.index-last.result.now ≡ get_or c.self.inside.rows.items (c.len-len.result - 1) c.index-last.result.now = search rules in
    ap (λ (r : BlockRow). round_up (row_end r)) last
    ∙ sym (last_next 16 c.self.inside.rows.items (c.len-len.result - 1) c.index-last.result.now (omega arith))
    ∙ ap (next_base_of 16) c.self.view_is
