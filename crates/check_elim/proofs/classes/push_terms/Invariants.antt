use Rattle.std.proofs.Common.{◌≡◌, drop, ◌++◌}
use Rattle.check_elim.specs.Tables.{terms_code}
use Rattle.check_elim.proofs.classes.push_terms.Given as goal

abbrev pub invariant-loop-term : goal.invariant-loop-term
invariant-loop-term l = l.to.items ++ terms_code (drop l.term-index l.terms) ≡ l.fn.to.items ++ terms_code l.terms
