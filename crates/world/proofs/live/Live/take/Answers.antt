use Rattle.std.proofs.Common.{ap, sym, ◌∙◌}
use Rattle.world_core.specs.Script.{on_devices}
use Rattle.world_core.specs.Inputs.{answered}
use Rattle.world.specs.Happening.{takes_from}
use Rattle.world.proofs.Standing.{leads-is}
use Rattle.world.proofs.live.Live.take.Goals as goal

pub returns-in-Answer : goal.returns-in-Answer
returns-in-Answer g c = leads-is
    (ap (λ vs. on_devices (answered c.in-Answer.port vs)) c.named_values.ensures ∙ ap (takes_from c.args.answers.now) (sym c.in-Answer.is))
    (c.answer.ensures _ _ _)
