-- What the run has left.
use Rattle.sd_engine.specs.Running.{run_cut, run_none}
use Rattle.sd_engine.proofs.Ran.{ran-whole}
use Rattle.sd_engine.proofs.run.run_plan.Goals as goal

pub returns-in-Ok-clause-runs : goal.returns-in-Ok-clause-runs
returns-in-Ok-clause-runs g c = ran-whole _ _ _ _ _ _ _ c.status_after.ensures c.in-Ok.ensures.ended.failed c.in-Ok.ensures.written

pub returns-in-Err-Write-clause-runs : goal.returns-in-Err-Write-clause-runs
returns-in-Err-Write-clause-runs g c = let left = rw c.in-Err-Write.field-0-is at c.in-Err-Write.ensures.fault in run_cut left.0

pub returns-in-Err-Memory-clause-runs : goal.returns-in-Err-Memory-clause-runs
returns-in-Err-Memory-clause-runs g c = let left = rw c.in-Err-Memory.field-0-is at c.in-Err-Memory.ensures.fault in run_none left.0
