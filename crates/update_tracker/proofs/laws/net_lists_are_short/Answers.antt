-- The caps of the kinds add up.
use Rattle.update_tracker.proofs.Bounds.{net_is_short}
use Rattle.update_tracker.proofs.laws.net_lists_are_short.Goals as goal

pub returns : goal.returns
returns c = λ h owner lawful proper. net_is_short h owner lawful proper
