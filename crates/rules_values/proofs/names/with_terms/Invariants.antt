use Rattle.std.proofs.Common.{◌≡◌, drop}
use Rattle.deputy_rules.specs.Values as spec
use Rattle.rules_values.proofs.names.with_terms.Given as goal

abbrev pub invariant-loop-term : goal.invariant-loop-term
invariant-loop-term l = spec.with_terms l.ctx l.naming (drop l.term-index l.terms) l.total ≡ spec.with_terms l.ctx l.naming l.terms l.fn.sum
