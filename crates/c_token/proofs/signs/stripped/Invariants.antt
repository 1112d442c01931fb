use Rattle.std.proofs.Common.{◌≡◌, length}
use Rattle.c_token.specs.Scans.{stripped}
use Rattle.c_token.proofs.signs.stripped.Given as goal

abbrev pub invariant-loop-wanted : goal.invariant-loop-wanted
invariant-loop-wanted l = stripped l.wanted l.rest ≡ stripped l.fn.spelling l.fn.text

abbrev pub decreases-loop-wanted : goal.decreases-loop-wanted
decreases-loop-wanted l = length l.wanted
