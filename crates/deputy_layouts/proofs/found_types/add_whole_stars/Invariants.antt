use Rattle.std.proofs.Common.{◌≡◌, drop, IfSome}
use Rattle.deputy_types.specs.Keys.{IsKey}
use Rattle.deputy_types.specs.Found.{with_whole_stars}
use Rattle.deputy_layouts.proofs.found_types.add_whole_stars.Given as goal

abbrev pub invariant-loop-star : goal.invariant-loop-star
invariant-loop-star l = record { value : with_whole_stars l.elements l.key (drop l.star-index l.stars) ≡ with_whole_stars l.fn.elements l.fn.first l.fn.stars; key : IfSome l.key IsKey }
