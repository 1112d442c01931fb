-- The answer is the verdict of the text.
use Rattle.driver_front.proofs.Unreadable.{read-verdict, unread-verdict}
use Rattle.driver_front.proofs.acceptance.accept.Goals as goal

pub returns-in-Ok-clause-verdict : goal.returns-in-Ok-clause-verdict
returns-in-Ok-clause-verdict c = read-verdict _ _ _ c.in-Ok.ensures.unit c.accept_unit.ensures.verdict

pub returns-in-Err-clause-verdict : goal.returns-in-Err-clause-verdict
returns-in-Err-clause-verdict c = unread-verdict _ _ c.in-Err.ensures.unread
