-- The events that are left, which fit, and for whose answers there is room.
use Rattle.std.proofs.Common.{drop}
use Rattle.world.specs.Runs.{tells}
use Rattle.world.proofs.Playing.{EventsLeft}
use Rattle.world.proofs.world.World.events.Given as goal

abbrev pub invariant-loop-event : goal.invariant-loop-event
invariant-loop-event g l =
    EventsLeft l.answers l.initial.self l.self
    (tells l.initial.self l.initial.report (g.K.Sink.written l.initial.sink) (g.K.Sink.faults l.initial.sink))
    (tells l.self l.report (g.K.Sink.written l.sink) (g.K.Sink.faults l.sink)) l.events (drop l.event-index l.events)
