use Rattle.std.proofs.Common.{sym, ◌∙◌}
use Rattle.world.proofs.WholeRuns.{closes-silent, closes-ok, closes-fault}
use Rattle.world.proofs.whole_run.close.Goals as goal

pub returns-then-is_silent : goal.returns-then-is_silent
returns-then-is_silent g c = closes-silent _ _ (sym c.is_silent.ensures ∙ c.if-is_silent.true)

pub returns-in-Ok : goal.returns-in-Ok
returns-in-Ok g c = closes-ok _ _ _ _ _ (sym c.is_silent.ensures ∙ c.if-is_silent.false) c.in-Ok.ensures.ok c.in-Ok.ensures.cause.kept c.failed.ensures c.stopped.ensures

pub returns-in-Err : goal.returns-in-Err
returns-in-Err g c = closes-fault _ _ _ _ (sym c.is_silent.ensures ∙ c.if-is_silent.false) c.in-Err.ensures.err c.in-Err.ensures.cause.failed
