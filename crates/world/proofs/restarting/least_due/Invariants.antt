-- No driver before this place is due.
use Rattle.world.proofs.Due.{no_due_before}
use Rattle.world.proofs.restarting.least_due.Given as goal

abbrev pub invariant-loop-place : goal.invariant-loop-place
invariant-loop-place l = no_due_before l.drivers l.place
