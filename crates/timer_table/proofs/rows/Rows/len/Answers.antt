use Rattle.std.proofs.Common.{sym, ◌∙◌}
use Rattle.timer_table.proofs.Keyed.{rows_length}
use Rattle.timer_table.proofs.rows.Rows.len.Goals as goal

pub returns-clause-value : goal.returns-clause-value
returns-clause-value c = rw (← c.self.view_is) (c.len.ensures.value ∙ sym (rows_length c.self.inside.slots c.self.inside.keys.items c.self.invariant))
