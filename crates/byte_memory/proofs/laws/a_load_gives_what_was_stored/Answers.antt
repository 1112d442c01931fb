use Rattle.byte_memory.proofs.Addresses.{load_after_store}
use Rattle.byte_memory.proofs.laws.a_load_gives_what_was_stored.Goals as goal

pub returns : goal.returns
returns c = load_after_store
