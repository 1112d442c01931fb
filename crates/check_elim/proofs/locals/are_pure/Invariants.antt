use Rattle.std.proofs.Common.{◌≡◌, drop}
use Rattle.std.specs.List.{list_all}
use Rattle.check_elim.specs.Tables.{reads_none}
use Rattle.check_elim.proofs.locals.are_pure.Given as goal

abbrev pub invariant-loop-term : goal.invariant-loop-term
invariant-loop-term l = list_all (reads_none l.f) (drop l.term-index l.terms) ≡ list_all (reads_none l.f) l.terms
