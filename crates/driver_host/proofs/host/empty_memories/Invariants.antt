use Rattle.std.proofs.Common.{◌≡◌, replicate}
use Rattle.driver_host.specs.Hosting.{cleared}
use Rattle.driver_host.proofs.host.empty_memories.Given as goal

abbrev pub invariant-loop-driver : goal.invariant-loop-driver
invariant-loop-driver l = l.memories.items ≡ replicate l._driver cleared
