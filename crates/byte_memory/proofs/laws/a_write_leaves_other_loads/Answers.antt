use Rattle.byte_memory.proofs.Addresses.{other_loads}
use Rattle.byte_memory.proofs.laws.a_write_leaves_other_loads.Goals as goal

pub returns : goal.returns
returns c = other_loads
