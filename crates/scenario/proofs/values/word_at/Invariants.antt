-- The word is as far on in the rest as there are turns left.
use Rattle.std.proofs.Common.{◌≡◌, ◌-◌, slice_get}
use Rattle.scenario.specs.Words.{pieces_of}
use Rattle.scenario.proofs.values.word_at.Given as goal

abbrev pub invariant-loop-k : goal.invariant-loop-k
invariant-loop-k l = slice_get (pieces_of l.rest) (l.place - l._k) ≡ slice_get (pieces_of l.line) l.place
