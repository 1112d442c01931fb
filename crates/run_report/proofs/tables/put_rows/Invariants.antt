-- What is told, and the rows still to come, are all rows behind what was told.
use Rattle.std.proofs.Common.{◌≡◌, drop, map}
use Rattle.sd_outside.specs.Sink.{more}
use Rattle.kernel_tables.specs.KernelRows.{kernel_rows}
use Rattle.run_report.specs.Lines.{print}
use Rattle.run_report.specs.Tables.{row_item, told_rows}
use Rattle.run_report.proofs.tables.put_rows.Given as goal

abbrev pub invariant-loop-k : goal.invariant-loop-k
invariant-loop-k g l =
    let names = g.F.Functions.names l.functions in
    let rows = told_rows (kernel_rows l.kernel) in
    record {
      told : more (more (g.K.Sink.written l.sink) l.report) (print (map (row_item names) (drop l.k rows)))
          ≡ more (more (g.K.Sink.written l.initial.sink) l.initial.report) (print (map (row_item names) rows));
      calm : g.K.Sink.faults l.sink ≡ g.K.Sink.faults l.initial.sink;
    }
