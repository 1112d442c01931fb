use Rattle.std.proofs.Common.{◌≡◌, length}
use Rattle.c_token.specs.Scans.{first_sign}
use Rattle.c_token.proofs.signs.first_sign.Given as goal

abbrev pub invariant-loop-left : goal.invariant-loop-left
invariant-loop-left l = first_sign l.left l.text ≡ first_sign l.fn.signs l.text

abbrev pub decreases-loop-left : goal.decreases-loop-left
decreases-loop-left l = length l.left
