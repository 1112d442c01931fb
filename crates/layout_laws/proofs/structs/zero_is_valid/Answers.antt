use Rattle.layout_laws.proofs.ZeroValues.{zeros_valid}
use Rattle.layout_laws.proofs.structs.zero_is_valid.Goals as goal

pub returns : goal.returns
returns c = zeros_valid
