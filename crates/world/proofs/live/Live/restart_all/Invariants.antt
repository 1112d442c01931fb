-- What is left of the turns, that a handler may begin, and that drivers which are due have their tasks.
use Rattle.world_core.specs.Restarting.{restarts_left, has_due_driver, restarts_least}
use Rattle.world.specs.Standing.{units_of, here}
use Rattle.world.proofs.Turns.{TurningDue}
use Rattle.world.proofs.live.Live.restart_all.Given as goal

abbrev pub invariant-loop-turn : goal.invariant-loop-turn
invariant-loop-turn g l =
    TurningDue (units_of l.drivers.list.items)
    (here l.initial.self l.initial.report (g.K.Sink.written l.initial.sink) (g.K.Sink.faults l.initial.sink))
    (here l.self l.report (g.K.Sink.written l.sink) (g.K.Sink.faults l.sink)) (restarts_left l.initial.self.ground.run.drivers) l._turn
    has_due_driver restarts_least
