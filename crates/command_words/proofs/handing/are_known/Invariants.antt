use Rattle.std.proofs.Common.{◌≡◌, false, length, map, string_bytes}
use Rattle.command_words.specs.Words.{are_known}
use Rattle.command_words.proofs.handing.are_known.Given as goal

abbrev pub invariant-loop-rest : goal.invariant-loop-rest
invariant-loop-rest l = are_known l.waits (map string_bytes l.rest) ≡ are_known false (map string_bytes l.fn.words)

abbrev pub decreases-loop-rest : goal.decreases-loop-rest
decreases-loop-rest l = length l.rest
