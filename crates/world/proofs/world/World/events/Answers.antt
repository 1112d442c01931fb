use Rattle.world.proofs.Playing.{left-start, next-fits, next-names, next-room, left-next, left-done}
use Rattle.world.proofs.world.World.events.Goals as goal

pub loop-event-init : goal.loop-event-init
loop-event-init g c = left-start c.args.answers.now _ _ c.args.events.now c.requires.opens c.requires.fits c.requires.follows c.requires.room

pub event-requires-clause-opens : goal.event-requires-clause-opens
event-requires-clause-opens g c = c.loop-event.invariant.opens

pub event-requires-clause-fits : goal.event-requires-clause-fits
event-requires-clause-fits g c = next-fits c.args.events.now c.loop-event.event-index c.event-item.result c.loop-event-test.true c.event-item.is c.loop-event.invariant

pub event-requires-clause-names : goal.event-requires-clause-names
event-requires-clause-names g c = next-names c.args.events.now c.loop-event.event-index c.event-item.result c.loop-event-test.true c.event-item.is c.loop-event.invariant

pub event-requires-clause-room : goal.event-requires-clause-room
event-requires-clause-room g c = next-room c.args.events.now c.loop-event.event-index c.event-item.result c.loop-event-test.true c.event-item.is c.loop-event.invariant

pub loop-event-preserved : goal.loop-event-preserved
loop-event-preserved g c =
    left-next c.args.events.now c.loop-event.event-index c.event-item.result c.loop-event-test.true c.event-item.is c.loop-event.invariant c.event.ensures.carries c.event.ensures.opens
    c.event.ensures.room

pub returns : goal.returns
returns g c = left-done c.args.events.now c.loop-event.event-index c.loop-event-test.false c.loop-event.invariant
