use Rattle.std.proofs.Common.{rules, sym, ◌∙◌}
use Rattle.kernel_tables.specs.TableRows.{timer_row}
use Rattle.kernel_tables.proofs.Looking.{at_get, past_get}
use Rattle.kernel_tables.proofs.rows.timer.Goals as goal

pub returns-in-None : goal.returns-in-None
returns-in-None c = past_get timer_row c.args.timers.now c.args.k c.len.result c.len.ensures (sym c.in-None.is ∙ c.timer.ensures)

pub returns-in-Some : goal.returns-in-Some
returns-in-Some c = at_get timer_row c.args.timers.now c.args.k c.in-Some.timer _ (sym c.in-Some.is ∙ c.timer.ensures) (search rules)
