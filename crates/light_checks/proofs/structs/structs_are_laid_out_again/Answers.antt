use Rattle.light_checks.proofs.SecondPasses.{laid_out_again}
use Rattle.light_checks.proofs.structs.structs_are_laid_out_again.Goals as goal

pub returns : goal.returns
returns c = laid_out_again
