-- The answer is that of the texts as they were read.
use Rattle.sd_engine.specs.Serve.{check_refused, accepted, whole, cut}
use Rattle.sd_engine.proofs.check.check_texts.Goals as goal

pub returns-in-Ok-write_accepted-clause-output : goal.returns-in-Ok-write_accepted-clause-output
returns-in-Ok-write_accepted-clause-output g c writes = whole (accepted (rw c.in_default-found.is at c.in-Ok.ensures))
    c.in-Ok-write_accepted.ensures.ok

pub returns-in-Err-clause-output : goal.returns-in-Err-clause-output
returns-in-Err-clause-output g c writes = cut (accepted (rw c.in_default-found.is at c.in-Ok.ensures)) c.in-Err.ensures.err

pub returns-in-Ok-print_refusal-clause-output : goal.returns-in-Ok-print_refusal-clause-output
returns-in-Ok-print_refusal-clause-output g c writes = whole (check_refused _ _ _ (rw c.in-Some.is at c.in-Ok.ensures))
    c.in-Ok-print_refusal.ensures.ok

pub returns-in-Err-print_refusal-clause-output : goal.returns-in-Err-print_refusal-clause-output
returns-in-Err-print_refusal-clause-output g c writes = cut (check_refused _ _ _ (rw c.in-Some.is at c.in-Ok.ensures))
    c.in-Err-print_refusal.ensures.err
