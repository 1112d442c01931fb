use Rattle.checked_tree.proofs.CodeLaws.{same_numbers}
use Rattle.checked_tree.proofs.codes.code.Goals as goal

pub returns-clause-told : goal.returns-clause-told
returns-clause-told c = same_numbers _ _ _ c.new-numbers.ensures.items c.in_ok-push_code.ensures
