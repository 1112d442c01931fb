use Rattle.std.proofs.Common.{◌≡◌, ◌++◌, false, length}
use Rattle.c_token.specs.Scans.{meaning_after}
use Rattle.c_token.proofs.quotes.meaning.Given as goal

abbrev pub invariant-loop-rest : goal.invariant-loop-rest
invariant-loop-rest l = l.bytes ++ meaning_after l.escape l.rest ≡ meaning_after false l.fn.spelling

abbrev pub decreases-loop-rest : goal.decreases-loop-rest
decreases-loop-rest l = length l.rest
