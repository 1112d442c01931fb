-- What is pushed so far, and the values still to come, are those of the line.
use Rattle.std.proofs.Common.{◌≡◌, ◌++◌, length}
use Rattle.scenario.specs.Words.{pieces_of}
use Rattle.scenario.specs.Forms.{values_in}
use Rattle.scenario.proofs.values.push_values.Given as goal

abbrev pub invariant-loop-word : goal.invariant-loop-word
invariant-loop-word l = l.values.items ++ values_in (pieces_of l.rest) ≡ l.fn.values.items ++ values_in (pieces_of l.line)

abbrev pub decreases-loop-word : goal.decreases-loop-word
decreases-loop-word l = length l.rest
