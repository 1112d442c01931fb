use Rattle.std.proofs.Common.{refl, sym, ◌∙◌}
use Rattle.world.proofs.Turns.{says, none-told, served-told, waiting-told}
use Rattle.world.proofs.live.Live.say_waiting.Goals as goal

pub returns-then-is_over : goal.returns-then-is_over
returns-then-is_over g c = none-told c.args.line (sym c.is_over.ensures ∙ c.if-is_over.true)

pub returns-then-not-is_waiting : goal.returns-then-not-is_waiting
returns-then-not-is_waiting g c = served-told c.args.line (sym c.is_waiting.ensures ∙ c.if-not-is_waiting.true)

pub returns : goal.returns
returns g c = waiting-told c.args.line (sym c.is_over.ensures ∙ c.if-is_over.false) (sym c.is_waiting.ensures ∙ c.if-not-is_waiting.false)
    (says _ _ _ refl c.say.ensures)
