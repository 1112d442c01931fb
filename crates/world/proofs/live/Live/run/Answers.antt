use Rattle.std.proofs.Common.{refl, sym, ◌∙◌}
use Rattle.world.proofs.Turns.{says, run-idle, run-live}
use Rattle.world.proofs.live.Live.run.Goals as goal

pub returns-in-None : goal.returns-in-None
returns-in-None g c = run-idle c.args.task c.args.n (sym c.live.ensures ∙ c.in-None.is) (says _ _ _ refl c.say.ensures)

pub returns-in-Some : goal.returns-in-Some
returns-in-Some g c = run-live c.args.task c.args.n c.in-Some._owner (sym c.live.ensures ∙ c.in-Some.is) c.rounds.ensures
