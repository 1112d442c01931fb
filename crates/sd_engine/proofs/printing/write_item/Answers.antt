-- Of a line that was cut a front part was written, and nothing was kept before it.
use Rattle.sd_engine.proofs.Cutting.{cut-line, on-error}
use Rattle.sd_engine.proofs.printing.write_item.Goals as goal

pub returns-in_err-put-clause-err : goal.returns-in_err-put-clause-err
returns-in_err-put-clause-err g c = on-error c.from_residual.result (cut-line _ _ _ _ c.new-report.ensures c.in_err-put.ensures.err)
