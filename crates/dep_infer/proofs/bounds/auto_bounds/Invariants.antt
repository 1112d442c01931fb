use Rattle.std.proofs.Common.{◌≡◌, drop}
use Rattle.dep_infer.proofs.Slots.{after_params, Left}
use Rattle.dep_infer.proofs.bounds.auto_bounds.Given as goal

abbrev pub invariant-loop-param : goal.invariant-loop-param
invariant-loop-param l = l.table ≡ after_params l.params l.param-index

abbrev pub invariant-loop-local : goal.invariant-loop-local
invariant-loop-local l = Left l.f l.table l.next (drop l.local-index l.locals)
