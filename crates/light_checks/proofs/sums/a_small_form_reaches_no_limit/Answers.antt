use Rattle.light_checks.proofs.SumLimits.{form_free}
use Rattle.light_checks.proofs.sums.a_small_form_reaches_no_limit.Goals as goal

pub returns : goal.returns
returns c = λ atoms s l fit small. form_free atoms s fit l small
