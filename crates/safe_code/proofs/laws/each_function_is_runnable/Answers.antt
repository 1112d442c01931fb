use Rattle.safe_code.proofs.RunnableUnits.{each_runs}
use Rattle.safe_code.proofs.laws.each_function_is_runnable.Goals as goal

pub returns : goal.returns
returns c = λ unit is. each_runs is.table is.text unit is.short is.derived
