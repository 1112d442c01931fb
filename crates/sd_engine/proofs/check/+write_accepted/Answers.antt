-- A line that was cut is a front part of the lines.
use Rattle.sd_engine.proofs.Checks.{cut-accepted}
use Rattle.sd_engine.proofs.Cutting.{on-error}
use Rattle.sd_engine.proofs.check.+write_accepted.Goals as goal

pub returns-in_err-write_item-clause-err : goal.returns-in_err-write_item-clause-err
returns-in_err-write_item-clause-err g t c = on-error c.from_residual.result
    (cut-accepted _ _ _ c.args.driver _ c.in-len1-up.len_at_least c.in_err-write_item.ensures.err)
