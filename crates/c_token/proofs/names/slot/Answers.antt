use Rattle.std.proofs.Common.{refl}
use Rattle.c_token.specs.Reserved.{slot_of}
use Rattle.c_token.proofs.names.slot.Goals as goal

pub returns-clause-slot : goal.returns-clause-slot
unfolding slot_of
returns-clause-slot c = refl
