-- What is left of the turns.
use Rattle.std.proofs.Common.{◌+◌}
use Rattle.world_core.specs.Stepping.{step, goes_on}
use Rattle.world.specs.Standing.{units_of, here}
use Rattle.world.proofs.Turns.{TurningGood}
use Rattle.world.proofs.live.Live.run_to_end.Given as goal

abbrev pub invariant-loop-turn : goal.invariant-loop-turn
invariant-loop-turn g l =
    TurningGood (units_of l.drivers.list.items)
    (here l.initial.self l.initial.report (g.K.Sink.written l.initial.sink) (g.K.Sink.faults l.initial.sink))
    (here l.self l.report (g.K.Sink.written l.sink) (g.K.Sink.faults l.sink)) (l.initial.self.ground.run.left + 1) l._turn (goes_on l.task) (step l.task)
