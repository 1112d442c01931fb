use Rattle.std.proofs.Common.{refl, ap, sym, ◌∙◌}
use Rattle.checked_tree.specs.Flow.{Finds}
use Rattle.checked_tree.specs.Redundant.{event_inequality}
use Rattle.check_elim.specs.Sets.{facts}
use Rattle.check_elim.proofs.Lists.{told_all, told_nothing}
use Rattle.check_elim.proofs.lost.Lost.find_inequality.Goals as goal

pub returns-in-None-clause-facts : goal.returns-in-None-clause-facts
returns-in-None-clause-facts c =
    told_nothing c.args.f.now c.args.table.now.facts.items (Finds c.args.fact) (facts c.args.self.now) (ap (λ x. event_inequality c.args.f.now (Finds x)) c.in-None.is) (λ slots. refl)

pub returns-in-None-2-clause-facts : goal.returns-in-None-2-clause-facts
returns-in-None-2-clause-facts c =
    told_nothing c.args.f.now c.args.table.now.facts.items (Finds c.args.fact) (facts c.args.self.now)
    (ap (λ x. event_inequality c.args.f.now (Finds x)) c.in-Some.is ∙ (sym c.in_ok-over_atoms-in-Some.ensures ∙ c.in-None-2.is)) (λ slots. refl)

pub returns-clause-facts : goal.returns-clause-facts
returns-clause-facts c =
    c.give.ensures.facts
    ∙ told_all c.args.f.now c.args.table.now.facts.items (Finds c.args.fact) c.in-Some-2.strong (facts c.args.self.now)
    (ap (λ x. event_inequality c.args.f.now (Finds x)) c.in-Some.is ∙ (sym c.in_ok-over_atoms-in-Some.ensures ∙ c.in-Some-2.is)) (λ slots. refl)
