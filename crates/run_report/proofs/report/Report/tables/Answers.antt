-- The rows stand behind the line `tables`.
use Rattle.kernel_tables.specs.KernelRows.{kernel_rows}
use Rattle.kernel_tables.proofs.Shown.{rows_same}
use Rattle.run_report.specs.Lines.{print}
use Rattle.run_report.specs.Tables.{table_items}
use Rattle.run_report.proofs.Telling.{cut_behind}
use Rattle.run_report.proofs.report.Report.tables.Goals as goal

pub returns-in-Ok-clause-reads : goal.returns-in-Ok-clause-reads
returns-in-Ok-clause-reads g c = rows_same c.args.kernel.now

pub returns-in-Err-clause-reads : goal.returns-in-Err-clause-reads
returns-in-Err-clause-reads g c = rows_same c.args.kernel.now

pub returns-in-Err-clause-err : goal.returns-in-Err-clause-err
returns-in-Err-clause-err g c = cut_behind _ _ (print (table_items (g.F.Functions.names c.args.functions.now) (kernel_rows c.args.kernel.now))) c.in-Err.ensures.err
