use Rattle.std.proofs.Common.{ap, sym, ◌∙◌}
use Rattle.check_elim.specs.Sets.{facts, either_all}
use Rattle.check_elim.proofs.Lists.{guarded}
use Rattle.check_elim.proofs.lost.Lost.enter.Goals as goal

pub returns-then-self-clause-facts : goal.returns-then-self-clause-facts
unfolding facts
returns-then-self-clause-facts c =
    c.join.ensures.facts
    ∙ ap (either_all (facts c.args.self.now)) (sym (rw c.if-self.true (guarded c.args.self.now.words.items (facts c.args.round.now))))
