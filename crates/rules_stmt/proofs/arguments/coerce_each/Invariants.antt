use Rattle.std.proofs.Common.{◌≡◌, [], drop}
use Rattle.deputy_rules.specs.Calls as spec
use Rattle.rules_stmt.proofs.arguments.coerce_each.Given as goal

abbrev pub invariant-loop-shape : goal.invariant-loop-shape
invariant-loop-shape l = spec.coerce_each l.ctx l.naming (drop l.shape-index l.params) l.rest l.ids l.asked ≡ spec.coerce_each l.ctx l.naming l.params l.args [] l.fn.asked
