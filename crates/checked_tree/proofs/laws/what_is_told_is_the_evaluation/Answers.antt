use Rattle.checked_tree.proofs.Telling.{told_is}
use Rattle.checked_tree.proofs.Acting.{act_told_is, step_told_is}
use Rattle.checked_tree.proofs.laws.what_is_told_is_the_evaluation.Goals as goal

pub returns-clause-expressions : goal.returns-clause-expressions
returns-clause-expressions c = told_is

pub returns-clause-statements : goal.returns-clause-statements
returns-clause-statements c = act_told_is

pub returns-clause-steps : goal.returns-clause-steps
returns-clause-steps c = step_told_is
