use Rattle.byte_memory.proofs.Grants.{within_one_range}
use Rattle.byte_memory.proofs.laws.an_access_is_inside_within_one_range.Goals as goal

pub returns : goal.returns
returns c = within_one_range
