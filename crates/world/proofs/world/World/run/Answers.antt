use Rattle.std.proofs.Common.{◌≤◌, length, subst, sym}
use Rattle.scenario.specs.Fits.{AllFit, AnswersFollow}
use Rattle.world.specs.Runs.{room_of}
use Rattle.world.proofs.Playing.{all-wider, carries-then, carries-whole, few-drivers}
use Rattle.world.proofs.world.World.run.Goals as goal

pub events-requires-clause-opens : goal.events-requires-clause-opens
events-requires-clause-opens g c = c.requires.opens

pub events-requires-clause-fits : goal.events-requires-clause-fits
events-requires-clause-fits g c =
    subst (AllFit 2 4) (sym c.as_slice-2.ensures.value) (all-wider _ _ _ (few-drivers _ _ c.requires.opens) c.requires.plays.fits)

pub events-requires-clause-follows : goal.events-requires-clause-follows
events-requires-clause-follows g c =
    subst (λ es. AnswersFollow 0 es (length c.as_slice.result.now)) (sym c.as_slice-2.ensures.value)
    (subst (λ vs. AnswersFollow 0 c.args.scenario.now.events.items (length vs)) (sym c.as_slice.ensures.value) c.requires.plays.follows)

pub events-requires-clause-room : goal.events-requires-clause-room
events-requires-clause-room g c = subst (λ vs. length vs ≤ room_of c.args.self.now) (sym c.as_slice.ensures.value) c.requires.room

pub returns : goal.returns
returns g c = carries-whole c.as_slice.ensures.value c.as_slice-2.ensures.value (carries-then c.events.ensures (c.end.ensures _))
