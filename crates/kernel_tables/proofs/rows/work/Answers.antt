use Rattle.std.proofs.Common.{rules, sym, ◌∙◌}
use Rattle.kernel_tables.specs.TableRows.{work_row}
use Rattle.kernel_tables.proofs.Looking.{at_get, past_get}
use Rattle.kernel_tables.proofs.rows.work.Goals as goal

pub returns-in-None : goal.returns-in-None
returns-in-None c = past_get work_row c.args.shares.now.work c.args.k c.waiting.result c.waiting.ensures (sym c.in-None.is ∙ c.queued.ensures)

pub returns-in-Some : goal.returns-in-Some
returns-in-Some c = at_get work_row c.args.shares.now.work c.args.k c.in-Some.work _ (sym c.in-Some.is ∙ c.queued.ensures) (search rules)
