use Rattle.std.proofs.Common.{map, get_or, [], ap, sym, ◌∙◌, arith}
use Rattle.kernel_tables.specs.TableRows.{block_row}
use Rattle.kernel_tables.specs.Places.{look_up}
use Rattle.kernel_tables.proofs.Looking.{left_all, left_at, left_past, left_none}
use Rattle.kernel_tables.proofs.rows.block.Goals as goal

pub loop-owner-init : goal.loop-owner-init
loop-owner-init c = left_all (λ owner. map (block_row owner) (get_or c.args.grants.now owner [])) 5 c.args.k

pub returns-in-At : goal.returns-in-At
returns-in-At c = left_at (λ owner. map (block_row owner) (get_or c.args.grants.now owner [])) c.loop-owner.owner 5 c.loop-owner.left c.args.k c.in-At.row c.loop-owner-test.true c.loop-owner.invariant (ap (λ bs. look_up (map (block_row c.loop-owner.owner) bs) c.loop-owner.left) (sym c.blocks-in-loop-owner.ensures) ∙ sym c.block_of.ensures ∙ c.in-At.is)

pub loop-owner-preserved : goal.loop-owner-preserved
loop-owner-preserved c = left_past (λ owner. map (block_row owner) (get_or c.args.grants.now owner [])) c.loop-owner.owner 5 c.loop-owner.left c.args.k c.in-Past.past c.loop-owner-test.true c.loop-owner.invariant (ap (λ bs. look_up (map (block_row c.loop-owner.owner) bs) c.loop-owner.left) (sym c.blocks-in-loop-owner.ensures) ∙ sym c.block_of.ensures ∙ c.in-Past.is)

pub returns : goal.returns
returns c = left_none (λ owner. map (block_row owner) (get_or c.args.grants.now owner [])) c.loop-owner.owner 5 c.loop-owner.left c.args.k (omega arith) c.loop-owner.invariant
