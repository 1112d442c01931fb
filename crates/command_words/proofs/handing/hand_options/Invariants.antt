use Rattle.std.proofs.Common.{◌≡◌, ◌++◌, false, length, map, string_bytes}
use Rattle.command_words.specs.Line.{options_in}
use Rattle.command_words.proofs.handing.hand_options.Given as goal

abbrev pub invariant-loop-rest : goal.invariant-loop-rest
invariant-loop-rest l = map (λ s. s.now) l.handed.items ++ options_in l.waits (map string_bytes l.rest)
    ≡ map (λ s. s.now) l.fn.handed.items ++ options_in false (map string_bytes l.fn.words)

abbrev pub decreases-loop-rest : goal.decreases-loop-rest
decreases-loop-rest l = length l.rest
