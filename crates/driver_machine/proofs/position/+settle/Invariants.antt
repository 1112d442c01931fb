use Rattle.std.proofs.Common.{length}
use Rattle.driver_machine.proofs.position.+settle.Given as goal

abbrev pub decreases-settle : goal.decreases-settle
decreases-settle l = length l.path.now.items
