use Rattle.std.proofs.Common.{◌≡◌, length}
use Rattle.c_tree.specs.Gaps.{after_spaces}
use Rattle.c_token.proofs.gaps.after_spaces.Given as goal

abbrev pub invariant-loop-rest : goal.invariant-loop-rest
invariant-loop-rest l = after_spaces l.rest ≡ after_spaces l.fn.text

abbrev pub decreases-loop-rest : goal.decreases-loop-rest
decreases-loop-rest l = length l.rest
