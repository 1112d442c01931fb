use Rattle.std.proofs.Common.{◌≡◌, drop}
use Rattle.driver_machine.specs.Paths.{list_at}
use Rattle.driver_machine.proofs.position.list_at.Given as goal

abbrev pub invariant-loop-place : goal.invariant-loop-place
invariant-loop-place l = list_at l.list (drop l.place-index l.path) ≡ list_at l.fn.body l.fn.path
