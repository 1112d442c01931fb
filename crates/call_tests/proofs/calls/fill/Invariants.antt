use Rattle.std.proofs.Common.{◌≡◌, length}
use Rattle.call_tests.proofs.calls.fill.Given as goal

abbrev pub invariant-loop-at : goal.invariant-loop-at
invariant-loop-at g l = length l.memory.bytes ≡ length l.fn.memory.bytes
