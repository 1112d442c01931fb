use Rattle.std.proofs.Common.{◌∙◌}
use Rattle.world_core.specs.WorldState.{empty_arena}
use Rattle.driver_host.proofs.Hosting.{one-more}
use Rattle.driver_host.proofs.host.empty_memories.Goals as goal

pub loop-driver-preserved : goal.loop-driver-preserved
unfolding empty_arena
loop-driver-preserved c =
    c.in_ok-push.ensures.items ∙ one-more c.loop-driver._driver c.loop-driver.memories.items c.in_ok-memory.memory c.loop-driver.invariant c.in_ok-memory.ensures.made
