use Rattle.safe_code.proofs.FewFunctions.{few_functions}
use Rattle.safe_code.proofs.laws.functions_are_few.Goals as goal

pub returns : goal.returns
returns c = λ unit is. few_functions is.table is.text unit is.types is.derived
