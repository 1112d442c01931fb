use Rattle.std.proofs.Common.{◌≡◌, length}
use Rattle.machine_tests.proofs.memory.there_is_room_for_4096_ranges.Given as goal

abbrev pub invariant-loop-base : goal.invariant-loop-base
invariant-loop-base g l = record { sized : length l.memory.bytes ≡ 4096; counted : length l.memory.granted ≡ l.base }
