-- What is left of the turns, and that a handler may begin.
use Rattle.world_core.specs.Tasks.{may_go_on, round}
use Rattle.world.specs.Standing.{units_of, here}
use Rattle.world.proofs.Turns.{Turning}
use Rattle.world.proofs.live.Live.rounds.Given as goal

abbrev pub invariant-loop-turn : goal.invariant-loop-turn
invariant-loop-turn g l =
    Turning (units_of l.drivers.list.items)
    (here l.initial.self l.initial.report (g.K.Sink.written l.initial.sink) (g.K.Sink.faults l.initial.sink))
    (here l.self l.report (g.K.Sink.written l.sink) (g.K.Sink.faults l.sink)) l.n l._turn (may_go_on l.task) (round l.task)
