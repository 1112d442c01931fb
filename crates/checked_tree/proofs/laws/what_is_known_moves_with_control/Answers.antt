use Rattle.checked_tree.proofs.BranchFacts.{fact_holds}
use Rattle.checked_tree.proofs.Moving.{known_moves, entry_known}
use Rattle.checked_tree.proofs.RedundantChecks.{passed_holds}
use Rattle.checked_tree.proofs.laws.what_is_known_moves_with_control.Goals as goal

pub returns-clause-entry : goal.returns-clause-entry
returns-clause-entry c = entry_known

pub returns-clause-moves : goal.returns-clause-moves
returns-clause-moves c = known_moves

pub returns-clause-checks : goal.returns-clause-checks
returns-clause-checks c = passed_holds

pub returns-clause-branches : goal.returns-clause-branches
returns-clause-branches c = fact_holds
