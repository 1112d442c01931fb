use Rattle.std.proofs.Common.{ap, sym, ◌∙◌, ◌||◌}
use Rattle.check_elim.specs.Bits.{has}
use Rattle.check_elim.specs.Sets.{mask_words}
use Rattle.check_elim.proofs.Lists.{has_nothing, or_none}
use Rattle.check_elim.proofs.lost.join_mask.Goals as goal

pub returns-in-None-clause-members : goal.returns-in-None-clause-members
returns-in-None-clause-members c = λ j.
    sym (ap (λ b. has c.args.words.now j || b) (ap (λ o. has (mask_words o) j) (sym c.at.ensures ∙ ap Rattle.std.specs.Option.option_copied c.in-None.is) ∙ has_nothing j) ∙ or_none (has c.args.words.now j))
