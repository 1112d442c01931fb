use Rattle.std.proofs.Common.{refl}
use Rattle.world.proofs.Happens.{carries-event, opens-event, room-event}
use Rattle.world.proofs.world.World.event.Goals as goal

pub happen-requires-clause-ready : goal.happen-requires-clause-ready
happen-requires-clause-ready g c = c.requires.opens.ready

pub happen-requires-clause-due : goal.happen-requires-clause-due
happen-requires-clause-due g c = c.requires.opens.due

pub returns-clause-carries : goal.returns-clause-carries
returns-clause-carries g c = carries-event c.args.answers.now c.args.event.now _ _ _ _ refl refl c.happen.ensures

pub returns-clause-opens : goal.returns-clause-opens
returns-clause-opens g c = opens-event c.args.answers.now c.args.event.now _ _ _ _ refl c.requires.fits c.requires.opens c.happen.ensures

pub returns-clause-room : goal.returns-clause-room
returns-clause-room g c = room-event c.args.answers.now c.args.event.now c.requires.opens.ready c.happen.ensures
