use Rattle.std.proofs.Common.{sym, ◌∙◌, arith}
use Rattle.share_table.specs.Masks.{mask_at}
use Rattle.kernel_tables.specs.TableRows.{masks_of_owner}
use Rattle.kernel_tables.proofs.Looking.{left_all, left_at, left_past, left_none}
use Rattle.kernel_tables.proofs.rows.mask.Goals as goal

pub loop-owner-init : goal.loop-owner-init
loop-owner-init c = left_all (λ owner. masks_of_owner owner (mask_at c.args.shares.now.masks owner)) 5 c.args.k

pub returns-in-At : goal.returns-in-At
returns-in-At c = left_at (λ owner. masks_of_owner owner (mask_at c.args.shares.now.masks owner)) c.loop-owner.owner 5 c.loop-owner.left c.args.k c.in-At.row c.loop-owner-test.true c.loop-owner.invariant (sym c.mask_of_owner.ensures ∙ c.in-At.is)

pub loop-owner-preserved : goal.loop-owner-preserved
loop-owner-preserved c = left_past (λ owner. masks_of_owner owner (mask_at c.args.shares.now.masks owner)) c.loop-owner.owner 5 c.loop-owner.left c.args.k c.in-Past.past c.loop-owner-test.true c.loop-owner.invariant (sym c.mask_of_owner.ensures ∙ c.in-Past.is)

pub returns : goal.returns
returns c = left_none (λ owner. masks_of_owner owner (mask_at c.args.shares.now.masks owner)) c.loop-owner.owner 5 c.loop-owner.left c.args.k (omega arith) c.loop-owner.invariant
