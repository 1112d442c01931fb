use Rattle.std.proofs.Common.{List, ◌++◌, map, pos}
use Rattle.share_table.specs.Locks.{lock_at}
use Rattle.share_table.specs.Masks.{mask_at}
use Rattle.share_table.specs.Holds.{held_by_all}
use Rattle.share_table.specs.Rows.{ShareRows}
use Rattle.kernel_tables.specs.declared.row.Row.{Row}
use Rattle.kernel_tables.specs.TableRows.{lock_rows, mask_rows, hold_rows, work_row}
use Rattle.kernel_tables.proofs.Looking.{found_first, found_then}
use Rattle.kernel_tables.proofs.rows.share.Goals as goal

abbrev queued : ShareRows → List Row
queued t = map work_row t.work

abbrev holds : ShareRows → List Row
holds t = hold_rows (λ domain. held_by_all t.holds (pos domain))

abbrev masks : ShareRows → List Row
masks t = mask_rows (mask_at t.masks)

abbrev locks : ShareRows → List Row
locks t = lock_rows (λ lock. lock_at t.locks (pos lock))

pub returns-in-At : goal.returns-in-At
returns-in-At c =
    let t = c.args.shares.now in
    found_first (locks t) (masks t ++ (holds t ++ queued t)) c.args.k c.lock.result c.in-At.row c.lock.ensures c.in-At.is

pub returns-in-At-mask : goal.returns-in-At-mask
returns-in-At-mask c =
    let t = c.args.shares.now in
    found_then (locks t) (masks t ++ (holds t ++ queued t)) c.args.k c.in-Past.past c.lock.result _ c.lock.ensures c.in-Past.is
    (found_first (masks t) (holds t ++ queued t) c.in-Past.past c.mask.result c.in-At-mask.row c.mask.ensures c.in-At-mask.is)

pub returns-in-At-hold : goal.returns-in-At-hold
returns-in-At-hold c =
    let t = c.args.shares.now in
    found_then (locks t) (masks t ++ (holds t ++ queued t)) c.args.k c.in-Past.past c.lock.result _ c.lock.ensures c.in-Past.is
    (found_then (masks t) (holds t ++ queued t) c.in-Past.past c.in-Past-mask.past c.mask.result _ c.mask.ensures c.in-Past-mask.is
    (found_first (holds t) (queued t) c.in-Past-mask.past c.hold.result c.in-At-hold.row c.hold.ensures c.in-At-hold.is))

pub returns : goal.returns
returns c =
    let t = c.args.shares.now in
    found_then (locks t) (masks t ++ (holds t ++ queued t)) c.args.k c.in-Past.past c.lock.result _ c.lock.ensures c.in-Past.is
    (found_then (masks t) (holds t ++ queued t) c.in-Past.past c.in-Past-mask.past c.mask.result _ c.mask.ensures c.in-Past-mask.is
    (found_then (holds t) (queued t) c.in-Past-mask.past c.in-Past-hold.past c.hold.result _ c.hold.ensures c.in-Past-hold.is c.work.ensures))
