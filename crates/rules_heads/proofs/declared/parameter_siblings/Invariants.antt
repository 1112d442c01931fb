use Rattle.std.proofs.Common.{◌≡◌, drop}
use Rattle.deputy_rules.specs.Heads as spec
use Rattle.deputy_types.specs.Siblings.{no_siblings}
use Rattle.rules_heads.proofs.declared.parameter_siblings.Given as goal

abbrev pub invariant-loop-param : goal.invariant-loop-param
invariant-loop-param l = spec.with_parameters l.table.types (drop l.param-index l.params) l.siblings ≡ spec.with_parameters l.table.types l.params no_siblings
