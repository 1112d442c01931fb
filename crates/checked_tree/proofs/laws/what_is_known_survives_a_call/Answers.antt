use Rattle.checked_tree.proofs.Waiting.{known_behind}
use Rattle.checked_tree.proofs.laws.what_is_known_survives_a_call.Goals as goal

pub returns : goal.returns
returns c = known_behind
