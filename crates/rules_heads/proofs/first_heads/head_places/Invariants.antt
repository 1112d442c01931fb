use Rattle.std.proofs.Common.{take}
use Rattle.rules_heads.specs.Places.{FindsHeads}
use Rattle.rules_heads.proofs.first_heads.head_places.Given as goal

abbrev pub invariant-loop-i : goal.invariant-loop-i
invariant-loop-i l = FindsHeads l.places.entries (take l.i l.items)
