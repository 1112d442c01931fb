use Rattle.layout_laws.proofs.ZeroFits.{zero_fits}
use Rattle.layout_laws.proofs.struct_laws.zero_bytes_fit.Goals as goal

pub returns : goal.returns
returns c = zero_fits
