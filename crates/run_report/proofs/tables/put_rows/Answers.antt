-- Each row goes behind those that are told; after a write that failed a front part is written.
use Rattle.std.proofs.Common.{◌+◌, ◌≤◌, drop, map, take, ◌∙◌, arith}
use Rattle.kernel_tables.specs.KernelRows.{kernel_rows}
use Rattle.run_report.specs.Lines.{print}
use Rattle.run_report.specs.Tables.{row_item, told_rows}
use Rattle.run_report.proofs.Telling.{ended, next, cut_off, on_error, row_next, no_row, rows_past}
use Rattle.run_report.proofs.tables.put_rows.Goals as goal

pub returns-in_default-clause-ok : goal.returns-in_default-clause-ok
unfolding told_rows
returns-in_default-clause-ok g c =
    let rows = kernel_rows c.args.kernel.now in
    ended _ _ (row_item (g.F.Functions.names c.args.functions.now)) (drop c.loop-k.k (take 4294967295 rows)) (no_row 4294967295 c.loop-k.k rows c.in_default.ensures.value) c.loop-k.invariant.told

pub returns-in_err-put-clause-err : goal.returns-in_err-put-clause-err
returns-in_err-put-clause-err g c =
    let names = g.F.Functions.names c.args.functions.now in
    let rows = drop c.loop-k.k (told_rows (kernel_rows c.args.kernel.now)) in
    on_error _ (cut_off _ _ _ (print (map (row_item names) rows)) c.loop-k.invariant.told c.in_err-put.ensures.err)

pub loop-k-preserved : goal.loop-k-preserved
unfolding told_rows
loop-k-preserved g c =
    let names = g.F.Functions.names c.args.functions.now in
    let rows = kernel_rows c.args.kernel.now in
    record {
      told = next _ _ _ (row_item names) c.row_item-item.result c.in-Some.row (drop c.loop-k.k (take 4294967295 rows)) (drop (c.loop-k.k + 1) (take 4294967295 rows))
          (row_next 4294967295 c.loop-k.k rows c.in-Some.row c.loop-k-test.true c.in-Some.ensures.value) c.row_item-item.ensures c.in_ok-put.ensures.ok c.loop-k.invariant.told;
      calm = c.in_ok-put.ensures.cause.kept ∙ c.loop-k.invariant.calm;
    }

pub returns-clause-ok : goal.returns-clause-ok
unfolding told_rows
returns-clause-ok g c =
    let rows = kernel_rows c.args.kernel.now in
    let past : 4294967295 ≤ c.loop-k.k = omega (arith, c.loop-k-test.false) in
    ended _ _ (row_item (g.F.Functions.names c.args.functions.now)) (drop c.loop-k.k (take 4294967295 rows)) (rows_past 4294967295 c.loop-k.k rows past) c.loop-k.invariant.told
