use Rattle.std.proofs.Common.{◌≡◌, drop}
use Rattle.deputy_rules.specs.Calls as spec
use Rattle.rules_stmt.proofs.kernel.kernel_arguments.Given as goal

abbrev pub invariant-loop-e : goal.invariant-loop-e
invariant-loop-e l = spec.kernel_arguments l.ctx l.functions l.rest (drop l.e-index l.args) l.given l.asked
    ≡ spec.kernel_arguments l.ctx l.functions l.kinds l.args spec.no_arguments l.fn.asked
