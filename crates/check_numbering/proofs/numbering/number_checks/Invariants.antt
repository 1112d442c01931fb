use Rattle.std.proofs.Common.{◌≡◌, drop}
use Rattle.deputy_rules.specs.Numbering as spec
use Rattle.check_numbering.proofs.numbering.number_checks.Given as goal

abbrev pub invariant-loop-one : goal.invariant-loop-one
invariant-loop-one l = spec.numbered (drop l.one-index l.asked) (record { atoms = l.atoms; checks = l.checks })
    ≡ spec.numbered l.fn.asked (record { atoms = l.fn.atoms; checks = l.fn.checks })
