use Rattle.driver_host.proofs.Told.{put-list, faulted-list, prints-silent}
use Rattle.driver_host.proofs.printing.say_tables.Goals as goal

pub returns-then-is_silent : goal.returns-then-is_silent
returns-then-is_silent g c = prints-silent _ _ c.if-is_silent.true

pub returns-in-Ok : goal.returns-in-Ok
returns-in-Ok g c = put-list _ _ _ _ _ _ _ _ c.if-is_silent.false c.in-Ok.ensures.ok c.in-Ok.ensures.cause.kept

pub returns-in-Err : goal.returns-in-Err
returns-in-Err g c = faulted-list _ _ _ _ _ _ _ _ c.if-is_silent.false c.in-Err.ensures.err c.in-Err.ensures.cause.failed
