use Rattle.std.proofs.Common.{◌≡◌, drop, filter, slice_get}
use Rattle.claim_table.specs.Ordered.{has_number}
use Rattle.claim_table.proofs.rows.nth_of.Given as goal

abbrev pub invariant-loop-claim : goal.invariant-loop-claim
invariant-loop-claim g l =
    slice_get (filter (has_number l.number) l.claims) l.k ≡ slice_get (filter (has_number l.number) (drop l.claim-index l.claims)) l.left
