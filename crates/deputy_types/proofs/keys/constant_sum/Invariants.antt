use Rattle.std.proofs.Common.{◌≡◌, drop, pos}
use Rattle.deputy_types.specs.Types.{constant_sum}
use Rattle.deputy_types.proofs.keys.constant_sum.Given as goal

abbrev pub invariant-loop-term : goal.invariant-loop-term
invariant-loop-term l = constant_sum l.sum (drop l.term-index l.terms) ≡ constant_sum (pos 0) l.fn.terms
