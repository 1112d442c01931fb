use Rattle.std.proofs.Common.{◌≡◌, [], drop}
use Rattle.deputy_rules.specs.Calls as spec
use Rattle.rules_stmt.proofs.arguments.pass_each.Given as goal

abbrev pub invariant-loop-e : goal.invariant-loop-e
invariant-loop-e l = spec.pass_each l.ctx l.rest (drop l.e-index l.args) l.done l.asked ≡ spec.pass_each l.ctx l.params l.args [] l.fn.asked
