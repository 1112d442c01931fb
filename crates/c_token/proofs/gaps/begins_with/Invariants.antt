use Rattle.std.proofs.Common.{◌≡◌, length}
use Rattle.c_tree.specs.Gaps.{begins_with}
use Rattle.c_token.proofs.gaps.begins_with.Given as goal

abbrev pub invariant-loop-wanted : goal.invariant-loop-wanted
invariant-loop-wanted l = begins_with l.wanted l.rest ≡ begins_with l.fn.bytes l.fn.text

abbrev pub decreases-loop-wanted : goal.decreases-loop-wanted
decreases-loop-wanted l = length l.wanted
