-- What is counted so far, and the words still to come, are the count of the line.
use Rattle.std.proofs.Common.{◌≡◌, ◌≤◌, ◌+◌, length}
use Rattle.scenario.specs.Words.{pieces_of}
use Rattle.scenario.proofs.Counting.{counted}
use Rattle.scenario.proofs.values.count_values.Given as goal

abbrev pub invariant-loop-word : goal.invariant-loop-word
invariant-loop-word l =
    record {
      same : counted l.count (pieces_of l.rest) ≡ counted 0 (pieces_of l.line);
      bound : l.count + length l.rest ≤ length l.line;
    }

abbrev pub decreases-loop-word : goal.decreases-loop-word
decreases-loop-word l = length l.rest
