use Rattle.byte_memory.proofs.Addresses.{each_byte}
use Rattle.byte_memory.proofs.laws.each_byte_is_the_last_written.Goals as goal

pub returns : goal.returns
returns c = each_byte
