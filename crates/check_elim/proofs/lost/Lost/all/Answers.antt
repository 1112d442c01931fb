use Rattle.check_elim.specs.Sets.{facts}
use Rattle.check_elim.proofs.Lists.{all_are_lost}
use Rattle.check_elim.proofs.lost.Lost.all.Goals as goal

pub returns-clause-facts : goal.returns-clause-facts
unfolding facts
returns-clause-facts c = all_are_lost c.args.size _ c.in_ok-ones.ensures
