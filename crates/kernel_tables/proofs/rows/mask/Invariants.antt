use Rattle.share_table.specs.Masks.{mask_at}
use Rattle.kernel_tables.specs.TableRows.{masks_of_owner}
use Rattle.kernel_tables.proofs.Looking.{IsLeft}
use Rattle.kernel_tables.proofs.rows.mask.Given as goal

abbrev pub invariant-loop-owner : goal.invariant-loop-owner
invariant-loop-owner l = IsLeft (λ owner. masks_of_owner owner (mask_at l.shares.masks owner)) l.owner 5 l.left l.k
