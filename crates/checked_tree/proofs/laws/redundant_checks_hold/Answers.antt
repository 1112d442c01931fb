use Rattle.checked_tree.proofs.RedundantChecks.{constant_holds, equal_holds, met_holds, redundant_holds}
use Rattle.checked_tree.proofs.laws.redundant_checks_hold.Goals as goal

pub returns-clause-constant : goal.returns-clause-constant
returns-clause-constant c = constant_holds

pub returns-clause-equal : goal.returns-clause-equal
returns-clause-equal c = equal_holds

pub returns-clause-met : goal.returns-clause-met
returns-clause-met c = met_holds

pub returns-clause-all : goal.returns-clause-all
returns-clause-all c = redundant_holds
