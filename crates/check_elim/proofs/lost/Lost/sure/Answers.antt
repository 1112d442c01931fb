use Rattle.std.proofs.Common.{ℕ, List, true, ap, ◌∙◌}
use Rattle.check_elim.specs.Bits.{has}
use Rattle.check_elim.specs.Sets.{way_of, facts, all_sure}
use Rattle.check_elim.proofs.Lists.{has_none}
use Rattle.check_elim.proofs.lost.Lost.sure.Goals as goal

pub returns-clause-facts : goal.returns-clause-facts
unfolding facts all_sure
returns-clause-facts c = λ t j. (ap (λ (l : List ℕ). way_of true (has l j)) c.in_ok-zeros.ensures ∙ ap (way_of true) (has_none c.args.size j)) t
