use Rattle.std.proofs.Common.{List, ◌++◌, ◌∷◌, [], Some, None}
use Rattle.kernel_tables.specs.declared.kernel.Kernel.{Kernel}
use Rattle.kernel_tables.specs.declared.row.Row.{Row}
use Rattle.kernel_tables.specs.declared.row.Row.TheVariants.{Clock}
use Rattle.kernel_tables.specs.KernelRows.{grant_rows, claim_rows, timer_rows, share_rows}
use Rattle.kernel_tables.proofs.Looking.{row_first, row_then, only_row, no_row}
use Rattle.kernel_tables.proofs.Shown.{reads}
use Rattle.kernel_tables.proofs.kernel.Kernel.row.Goals as goal

-- what stands behind the rows of each table

abbrev behind_shares : Kernel → List Row
behind_shares k = Clock k.now ∷ []

abbrev behind_timers : Kernel → List Row
behind_timers k = share_rows k.shares ++ behind_shares k

abbrev behind_claims : Kernel → List Row
behind_claims k = timer_rows k.timers ++ behind_timers k

abbrev behind_grants : Kernel → List Row
behind_grants k = claim_rows k.claims ++ behind_claims k

pub returns-in-At-clause-value : goal.returns-in-At-clause-value
returns-in-At-clause-value c =
    let t = c.args.self.now in
    (row_first (grant_rows t.grants) (behind_grants t) c.args.k c.block.result c.in-At.row c.block.ensures c.in-At.is)

pub returns-in-At-clause-reads : goal.returns-in-At-clause-reads
returns-in-At-clause-reads c =
    let t = c.args.self.now in
    reads t c.args.k (Some c.in-At.row)
    (row_first (grant_rows t.grants) (behind_grants t) c.args.k c.block.result c.in-At.row c.block.ensures c.in-At.is)

pub returns-in-At-claim-clause-value : goal.returns-in-At-claim-clause-value
returns-in-At-claim-clause-value c =
    let t = c.args.self.now in
    (row_then (grant_rows t.grants) (behind_grants t) c.args.k c.in-Past.past c.block.result (Some c.in-At-claim.row) c.block.ensures c.in-Past.is
    (row_first (claim_rows t.claims) (behind_claims t) c.in-Past.past c.claim.result c.in-At-claim.row c.claim.ensures c.in-At-claim.is))

pub returns-in-At-claim-clause-reads : goal.returns-in-At-claim-clause-reads
returns-in-At-claim-clause-reads c =
    let t = c.args.self.now in
    reads t c.args.k (Some c.in-At-claim.row)
    (row_then (grant_rows t.grants) (behind_grants t) c.args.k c.in-Past.past c.block.result (Some c.in-At-claim.row) c.block.ensures c.in-Past.is
    (row_first (claim_rows t.claims) (behind_claims t) c.in-Past.past c.claim.result c.in-At-claim.row c.claim.ensures c.in-At-claim.is))

pub returns-in-At-timer-clause-value : goal.returns-in-At-timer-clause-value
returns-in-At-timer-clause-value c =
    let t = c.args.self.now in
    (row_then (grant_rows t.grants) (behind_grants t) c.args.k c.in-Past.past c.block.result (Some c.in-At-timer.row) c.block.ensures c.in-Past.is
    (row_then (claim_rows t.claims) (behind_claims t) c.in-Past.past c.in-Past-claim.past c.claim.result (Some c.in-At-timer.row) c.claim.ensures c.in-Past-claim.is
    (row_first (timer_rows t.timers) (behind_timers t) c.in-Past-claim.past c.timer.result c.in-At-timer.row c.timer.ensures c.in-At-timer.is)))

pub returns-in-At-timer-clause-reads : goal.returns-in-At-timer-clause-reads
returns-in-At-timer-clause-reads c =
    let t = c.args.self.now in
    reads t c.args.k (Some c.in-At-timer.row)
    (row_then (grant_rows t.grants) (behind_grants t) c.args.k c.in-Past.past c.block.result (Some c.in-At-timer.row) c.block.ensures c.in-Past.is
    (row_then (claim_rows t.claims) (behind_claims t) c.in-Past.past c.in-Past-claim.past c.claim.result (Some c.in-At-timer.row) c.claim.ensures c.in-Past-claim.is
    (row_first (timer_rows t.timers) (behind_timers t) c.in-Past-claim.past c.timer.result c.in-At-timer.row c.timer.ensures c.in-At-timer.is)))

pub returns-in-At-share-clause-value : goal.returns-in-At-share-clause-value
returns-in-At-share-clause-value c =
    let t = c.args.self.now in
    (row_then (grant_rows t.grants) (behind_grants t) c.args.k c.in-Past.past c.block.result (Some c.in-At-share.row) c.block.ensures c.in-Past.is
    (row_then (claim_rows t.claims) (behind_claims t) c.in-Past.past c.in-Past-claim.past c.claim.result (Some c.in-At-share.row) c.claim.ensures c.in-Past-claim.is
    (row_then (timer_rows t.timers) (behind_timers t) c.in-Past-claim.past c.in-Past-timer.past c.timer.result (Some c.in-At-share.row) c.timer.ensures c.in-Past-timer.is
    (row_first (share_rows t.shares) (behind_shares t) c.in-Past-timer.past c.share.result c.in-At-share.row c.share.ensures c.in-At-share.is))))

pub returns-in-At-share-clause-reads : goal.returns-in-At-share-clause-reads
returns-in-At-share-clause-reads c =
    let t = c.args.self.now in
    reads t c.args.k (Some c.in-At-share.row)
    (row_then (grant_rows t.grants) (behind_grants t) c.args.k c.in-Past.past c.block.result (Some c.in-At-share.row) c.block.ensures c.in-Past.is
    (row_then (claim_rows t.claims) (behind_claims t) c.in-Past.past c.in-Past-claim.past c.claim.result (Some c.in-At-share.row) c.claim.ensures c.in-Past-claim.is
    (row_then (timer_rows t.timers) (behind_timers t) c.in-Past-claim.past c.in-Past-timer.past c.timer.result (Some c.in-At-share.row) c.timer.ensures c.in-Past-timer.is
    (row_first (share_rows t.shares) (behind_shares t) c.in-Past-timer.past c.share.result c.in-At-share.row c.share.ensures c.in-At-share.is))))

pub returns-then-k-eq0-clause-value : goal.returns-then-k-eq0-clause-value
returns-then-k-eq0-clause-value c =
    let t = c.args.self.now in
    (row_then (grant_rows t.grants) (behind_grants t) c.args.k c.in-Past.past c.block.result (Some (Clock t.now)) c.block.ensures c.in-Past.is
    (row_then (claim_rows t.claims) (behind_claims t) c.in-Past.past c.in-Past-claim.past c.claim.result (Some (Clock t.now)) c.claim.ensures c.in-Past-claim.is
    (row_then (timer_rows t.timers) (behind_timers t) c.in-Past-claim.past c.in-Past-timer.past c.timer.result (Some (Clock t.now)) c.timer.ensures c.in-Past-timer.is
    (row_then (share_rows t.shares) (behind_shares t) c.in-Past-timer.past c.in-Past-share.past c.share.result (Some (Clock t.now)) c.share.ensures c.in-Past-share.is
    (only_row (Clock t.now) c.in-Past-share.past c.if-k-eq0.true)))))

pub returns-then-k-eq0-clause-reads : goal.returns-then-k-eq0-clause-reads
returns-then-k-eq0-clause-reads c =
    let t = c.args.self.now in
    reads t c.args.k (Some (Clock t.now))
    (row_then (grant_rows t.grants) (behind_grants t) c.args.k c.in-Past.past c.block.result (Some (Clock t.now)) c.block.ensures c.in-Past.is
    (row_then (claim_rows t.claims) (behind_claims t) c.in-Past.past c.in-Past-claim.past c.claim.result (Some (Clock t.now)) c.claim.ensures c.in-Past-claim.is
    (row_then (timer_rows t.timers) (behind_timers t) c.in-Past-claim.past c.in-Past-timer.past c.timer.result (Some (Clock t.now)) c.timer.ensures c.in-Past-timer.is
    (row_then (share_rows t.shares) (behind_shares t) c.in-Past-timer.past c.in-Past-share.past c.share.result (Some (Clock t.now)) c.share.ensures c.in-Past-share.is
    (only_row (Clock t.now) c.in-Past-share.past c.if-k-eq0.true)))))

pub returns-clause-value : goal.returns-clause-value
returns-clause-value c =
    let t = c.args.self.now in
    (row_then (grant_rows t.grants) (behind_grants t) c.args.k c.in-Past.past c.block.result (None) c.block.ensures c.in-Past.is
    (row_then (claim_rows t.claims) (behind_claims t) c.in-Past.past c.in-Past-claim.past c.claim.result (None) c.claim.ensures c.in-Past-claim.is
    (row_then (timer_rows t.timers) (behind_timers t) c.in-Past-claim.past c.in-Past-timer.past c.timer.result (None) c.timer.ensures c.in-Past-timer.is
    (row_then (share_rows t.shares) (behind_shares t) c.in-Past-timer.past c.in-Past-share.past c.share.result (None) c.share.ensures c.in-Past-share.is
    (no_row (Clock t.now) c.in-Past-share.past c.if-k-eq0.false)))))

pub returns-clause-reads : goal.returns-clause-reads
returns-clause-reads c =
    let t = c.args.self.now in
    reads t c.args.k (None)
    (row_then (grant_rows t.grants) (behind_grants t) c.args.k c.in-Past.past c.block.result (None) c.block.ensures c.in-Past.is
    (row_then (claim_rows t.claims) (behind_claims t) c.in-Past.past c.in-Past-claim.past c.claim.result (None) c.claim.ensures c.in-Past-claim.is
    (row_then (timer_rows t.timers) (behind_timers t) c.in-Past-claim.past c.in-Past-timer.past c.timer.result (None) c.timer.ensures c.in-Past-timer.is
    (row_then (share_rows t.shares) (behind_shares t) c.in-Past-timer.past c.in-Past-share.past c.share.result (None) c.share.ensures c.in-Past-share.is
    (no_row (Clock t.now) c.in-Past-share.past c.if-k-eq0.false)))))
