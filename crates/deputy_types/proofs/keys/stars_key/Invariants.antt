use Rattle.std.proofs.Common.{◌≡◌, drop}
use Rattle.deputy_types.specs.Types.{stars_key}
use Rattle.deputy_types.proofs.keys.stars_key.Given as goal

abbrev pub invariant-loop-star : goal.invariant-loop-star
invariant-loop-star l = stars_key l.elements l.key (drop l.star-index l.stars) ≡ stars_key l.elements l.fn.key l.fn.stars
