-- The rows of the tables as they stand.
use Rattle.std.specs.Prelude.{List, [], ◌∷◌, ◌++◌, map, get_or, pos}
use Rattle.grant_table.specs.declared.blocks.BlockRow.{BlockRow}
use Rattle.claim_table.specs.Ordered.{last_of_each}
use Rattle.claim_table.specs.ClaimRows.{ClaimRows}
use Rattle.timer_table.specs.declared.fired.Fired.{Fired}
use Rattle.share_table.specs.Locks.{lock_at}
use Rattle.share_table.specs.Masks.{mask_at}
use Rattle.share_table.specs.Holds.{held_by_all}
use Rattle.share_table.specs.Rows.{ShareRows}
use Rattle.kernel_tables.specs.declared.kernel.Kernel.{Kernel}
use Rattle.kernel_tables.specs.declared.row.Row.{Row}
use Rattle.kernel_tables.specs.declared.row.Row.TheVariants.{Clock}
use Rattle.kernel_tables.specs.TableRows.{block_rows, line_row, ports_row, device_row, param_row, timer_row, lock_rows, mask_rows, hold_rows, work_row}

abbrev pub grant_rows : List (List BlockRow) → List Row
grant_rows t = block_rows (λ owner. get_or t owner [])

abbrev pub claim_rows : ClaimRows → List Row
claim_rows t = map line_row t.lines ++ (map ports_row t.ports ++ (map device_row t.devices ++ map param_row (last_of_each t.params)))

abbrev pub timer_rows : List Fired → List Row
timer_rows t = map timer_row t

abbrev pub share_rows : ShareRows → List Row
share_rows t =
    lock_rows (λ lock. lock_at t.locks (pos lock))
    ++ (mask_rows (mask_at t.masks)
    ++ (hold_rows (λ domain. held_by_all t.holds (pos domain))
    ++ map work_row t.work))

-- the rows of a kernel's tables
abbrev pub kernel_rows : Kernel → List Row
kernel_rows k = grant_rows k.grants ++ (claim_rows k.claims ++ (timer_rows k.timers ++ (share_rows k.shares ++ Clock k.now ∷ [])))
