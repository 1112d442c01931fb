-- What is left of the turns, and that a handler may begin.
use Rattle.std.proofs.Common.{◌+◌}
use Rattle.world_core.specs.Clock.{has_due, fires_first}
use Rattle.world.specs.Standing.{units_of, here}
use Rattle.world.proofs.Turns.{Turning}
use Rattle.world.proofs.live.Live.fire_all.Given as goal

abbrev pub invariant-loop-turn : goal.invariant-loop-turn
invariant-loop-turn g l =
    Turning (units_of l.drivers.list.items)
    (here l.initial.self l.initial.report (g.K.Sink.written l.initial.sink) (g.K.Sink.faults l.initial.sink))
    (here l.self l.report (g.K.Sink.written l.sink) (g.K.Sink.faults l.sink)) (l.initial.self.ground.run.left + 1) l._turn (has_due l.moment) (fires_first l.moment)
