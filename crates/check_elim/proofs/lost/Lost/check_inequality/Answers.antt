use Rattle.std.proofs.Common.{refl, ap, sym, ◌∙◌}
use Rattle.std.specs.Option.{option_copied}
use Rattle.checked_tree.specs.Flow.{Tests}
use Rattle.check_elim.specs.Sets.{facts}
use Rattle.check_elim.proofs.Lists.{told_all, told_nothing, asked_is}
use Rattle.check_elim.proofs.lost.Lost.check_inequality.Goals as goal

pub returns-in-Some-clause-facts : goal.returns-in-Some-clause-facts
returns-in-Some-clause-facts c =
    c.give.ensures.facts
    ∙ told_all c.args.f.now c.args.table.now.facts.items (Tests c.args.id) c.in-Some.strong.now (facts c.args.self.now)
    (sym (asked_is c.args.f.now c.args.table.now c.args.id c.requires.table) ∙ (sym c.inequality.ensures ∙ ap option_copied c.in-Some.is)) (λ slots. refl)

pub returns-in_default-clause-facts : goal.returns-in_default-clause-facts
returns-in_default-clause-facts c =
    told_nothing c.args.f.now c.args.table.now.facts.items (Tests c.args.id) (facts c.args.self.now)
    (sym (asked_is c.args.f.now c.args.table.now c.args.id c.requires.table) ∙ (sym c.inequality.ensures ∙ ap option_copied c.in_default.is)) (λ slots. refl)
