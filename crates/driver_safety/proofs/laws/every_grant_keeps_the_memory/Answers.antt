use Rattle.driver_safety.proofs.memory.Granting.{each_grant_keeps}
use Rattle.driver_safety.proofs.laws.every_grant_keeps_the_memory.Goals as goal

pub returns : goal.returns
returns c = each_grant_keeps
