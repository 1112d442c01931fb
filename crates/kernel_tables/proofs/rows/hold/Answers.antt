use Rattle.std.proofs.Common.{pos, sym, ◌∙◌, arith}
use Rattle.share_table.specs.Holds.{held_by_all}
use Rattle.kernel_tables.specs.TableRows.{hold_row}
use Rattle.kernel_tables.proofs.Looking.{left_all, left_at, left_past, left_none}
use Rattle.kernel_tables.proofs.rows.hold.Goals as goal

pub loop-domain-init : goal.loop-domain-init
loop-domain-init c = left_all (λ domain. hold_row domain (held_by_all c.args.shares.now.holds (pos domain))) 64 c.args.k

pub returns-in-At : goal.returns-in-At
returns-in-At c = left_at (λ domain. hold_row domain (held_by_all c.args.shares.now.holds (pos domain))) c.loop-domain.domain 64 c.loop-domain.left c.args.k c.in-At.row c.loop-domain-test.true c.loop-domain.invariant (sym c.hold_of.ensures ∙ c.in-At.is)

pub loop-domain-preserved : goal.loop-domain-preserved
loop-domain-preserved c = left_past (λ domain. hold_row domain (held_by_all c.args.shares.now.holds (pos domain))) c.loop-domain.domain 64 c.loop-domain.left c.args.k c.in-Past.past c.loop-domain-test.true c.loop-domain.invariant (sym c.hold_of.ensures ∙ c.in-Past.is)

pub returns : goal.returns
returns c = left_none (λ domain. hold_row domain (held_by_all c.args.shares.now.holds (pos domain))) c.loop-domain.domain 64 c.loop-domain.left c.args.k (omega arith) c.loop-domain.invariant
