use Rattle.std.proofs.Common.{◌≡◌, length}
use Rattle.driver_machine.proofs.task.new_frames.Given as goal

abbrev pub invariant-loop : goal.invariant-loop
invariant-loop l = length l.frames.items ≡ l.counter
