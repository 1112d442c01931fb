use Rattle.std.proofs.Common.{◌≡◌, [], drop}
use Rattle.checked_tree.specs.Eval as checks
use Rattle.driver_machine.proofs.checks.test_all.Given as goal

abbrev pub invariant-loop-id : goal.invariant-loop-id
invariant-loop-id l = checks.tests [] l.f l.s (drop l.id-index l.ids) ≡ checks.tests [] l.fn.f l.fn.s l.fn.ids
