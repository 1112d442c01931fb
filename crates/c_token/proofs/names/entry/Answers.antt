use Rattle.std.proofs.Common.{refl}
use Rattle.c_token.specs.Reserved.{entry_of}
use Rattle.c_token.proofs.names.entry.Goals as goal

pub returns : goal.returns
unfolding entry_of
returns c = refl
