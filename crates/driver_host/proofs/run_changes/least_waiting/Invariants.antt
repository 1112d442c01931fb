-- No line before this one waits.
use Rattle.driver_host.proofs.Waiting.{none_before}
use Rattle.driver_host.proofs.run_changes.least_waiting.Given as goal

abbrev pub invariant-loop-line : goal.invariant-loop-line
invariant-loop-line l = none_before l.run.waiting l.line
