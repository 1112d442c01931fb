use Rattle.std.proofs.Common.{◌≡◌, drop}
use Rattle.deputy_types.specs.Types.{are_constant}
use Rattle.deputy_types.proofs.keys.are_constant.Given as goal

abbrev pub invariant-loop-star : goal.invariant-loop-star
invariant-loop-star l = are_constant l.text (drop l.star-index l.stars) ≡ are_constant l.fn.text l.fn.stars
