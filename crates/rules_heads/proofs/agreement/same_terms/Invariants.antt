use Rattle.std.proofs.Common.{◌≡◌, drop}
use Rattle.deputy_rules.specs.Agreement as spec
use Rattle.rules_heads.proofs.agreement.same_terms.Given as goal

abbrev pub invariant-loop-a : goal.invariant-loop-a
invariant-loop-a l = spec.same_terms l.ps l.qs (drop l.a-index l.terms) l.rest ≡ spec.same_terms l.ps l.qs l.terms l.others
