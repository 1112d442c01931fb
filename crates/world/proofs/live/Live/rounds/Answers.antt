use Rattle.std.proofs.Common.{refl}
use Rattle.world_core.specs.Tasks.{not_blocked, may_go_on, round, rounds}
use Rattle.world.proofs.Standing.{leads-then, leads-run}
use Rattle.world.proofs.Lines.{ready-after}
use Rattle.world.proofs.Resting.{rests-blocked, rests-round}
use Rattle.world.proofs.Turns.{turning-start, turning-next, turning-ends, turning-done, task-goes}
use Rattle.world.proofs.live.Live.rounds.Goals as goal

pub loop-turn-init : goal.loop-turn-init
loop-turn-init g c = turning-start c.args.n (may_go_on c.args.task) (round c.args.task)
    (ready-after c.requires.ready (leads-run _ _ _ not_blocked c.unblock.ensures refl refl refl) rests-blocked)

pub returns-then-not-may_go_on : goal.returns-then-not-may_go_on
unfolding rounds
returns-then-not-may_go_on g c = leads-then (leads-run _ _ _ not_blocked c.unblock.ensures refl refl refl)
    (turning-ends c.args.n c.loop-turn._turn (may_go_on c.args.task) (round c.args.task) c.loop-turn.invariant
    (task-goes _ _ c.args.task c.may_go_on.result _ c.may_go_on.ensures c.if-not-may_go_on.true))

pub round-requires-clause-ready : goal.round-requires-clause-ready
round-requires-clause-ready g c = c.loop-turn.invariant.ready

pub loop-turn-preserved : goal.loop-turn-preserved
loop-turn-preserved g c = turning-next c.args.n c.loop-turn._turn (may_go_on c.args.task) (round c.args.task) c.loop-turn-test.true c.loop-turn.invariant
    (task-goes _ _ c.args.task c.may_go_on.result _ c.may_go_on.ensures c.if-not-may_go_on.false) c.round.ensures (rests-round c.args.task c.requires.some)

pub returns : goal.returns
unfolding rounds
returns g c = leads-then (leads-run _ _ _ not_blocked c.unblock.ensures refl refl refl)
    (turning-done c.args.n c.loop-turn._turn (may_go_on c.args.task) (round c.args.task) c.loop-turn-test.false c.loop-turn.invariant)
