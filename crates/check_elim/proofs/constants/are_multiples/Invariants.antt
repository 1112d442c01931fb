use Rattle.std.proofs.Common.{◌≡◌, drop}
use Rattle.std.specs.List.{list_all}
use Rattle.check_elim.specs.Tables.{is_multiple_term}
use Rattle.check_elim.proofs.constants.are_multiples.Given as goal

abbrev pub invariant-loop-term : goal.invariant-loop-term
invariant-loop-term l = list_all (is_multiple_term l.size) (drop l.term-index l.terms) ≡ list_all (is_multiple_term l.size) l.terms
