use Rattle.std.proofs.Common.{◌≤◌, drop, vec_capacity}
use Rattle.claim_table.proofs.Latest.{TakesLatest}
use Rattle.claim_table.proofs.rows.Rows.take_latest.Given as goal

-- what was kept, in front of the latest of the rest, is the latest of all
abbrev pub invariant-loop-place : goal.invariant-loop-place
invariant-loop-place g l = TakesLatest l.claims (drop l.place l.claims) l.self-inside.claims.items × (256 ≤ vec_capacity l.self-inside.claims)
