use Rattle.std.proofs.Common.{◌≡◌, drop}
use Rattle.deputy_rules.specs.Changes as spec
use Rattle.rules_coerce.proofs.tags.tagged.Given as goal

abbrev pub invariant-loop-union : goal.invariant-loop-union
invariant-loop-union l = spec.tagged (drop l.union-index l.unions) l.member ≡ spec.tagged l.unions l.member
