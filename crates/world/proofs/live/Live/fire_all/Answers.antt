use Rattle.std.proofs.Common.{◌+◌, le_trans, arith}
use Rattle.world_core.specs.Script.{while_at_most}
use Rattle.world_core.specs.Clock.{has_due, fires_first, fires_all}
use Rattle.world.proofs.Standing.{leads-by_run}
use Rattle.world.proofs.Fronts.{no-timer, a-timer, first-fires}
use Rattle.world.proofs.Resting.{rests-fires_first}
use Rattle.world.proofs.Turns.{turning-start, turning-next, turning-ends, turning-done}
use Rattle.world.proofs.Firing.{timer-facts}
use Rattle.world.proofs.live.Live.fire_all.Goals as goal

pub loop-turn-init : goal.loop-turn-init
loop-turn-init g c = turning-start (c.args.self.now.ground.run.left + 1) (has_due c.args.moment) (fires_first c.args.moment) c.requires.ready

pub fire-requires-clause-ready : goal.fire-requires-clause-ready
fire-requires-clause-ready g c = c.loop-turn.invariant.ready

pub fire-requires-clause-goes : goal.fire-requires-clause-goes
fire-requires-clause-goes g c = (timer-facts c.args.moment c.in-Some.timer c.loop-turn.invariant.ready.calm c.in-Some.ensures).0

pub fire-requires-clause-driver : goal.fire-requires-clause-driver
fire-requires-clause-driver g c = (timer-facts c.args.moment c.in-Some.timer c.loop-turn.invariant.ready.calm c.in-Some.ensures).1

pub fire-requires-clause-owner : goal.fire-requires-clause-owner
fire-requires-clause-owner g c = (timer-facts c.args.moment c.in-Some.timer c.loop-turn.invariant.ready.calm c.in-Some.ensures).2

pub fire-requires-clause-due : goal.fire-requires-clause-due
fire-requires-clause-due g c =
    le_trans (timer-facts c.args.moment c.in-Some.timer c.loop-turn.invariant.ready.calm c.in-Some.ensures).3 c.requires.moment

pub returns-in-None : goal.returns-in-None
unfolding fires_all
returns-in-None g c = leads-by_run (λ run. while_at_most (run.left + 1) (has_due c.args.moment) (fires_first c.args.moment))
    (turning-ends (c.args.self.now.ground.run.left + 1) c.loop-turn._turn (has_due c.args.moment) (fires_first c.args.moment)
    c.loop-turn.invariant (no-timer _ _ c.args.moment c.in-None.ensures))

pub loop-turn-preserved : goal.loop-turn-preserved
loop-turn-preserved g c =
    turning-next (c.args.self.now.ground.run.left + 1) c.loop-turn._turn (has_due c.args.moment) (fires_first c.args.moment)
    (omega (arith, c.loop-turn-test.true, c.from-turns.ensures)) c.loop-turn.invariant (a-timer _ _ c.args.moment c.in-Some.timer c.in-Some.ensures)
    (first-fires _ _ _ c.args.moment c.in-Some.timer c.in-Some.ensures c.fire.ensures) (rests-fires_first c.args.moment)

pub returns : goal.returns
unfolding fires_all
returns g c = leads-by_run (λ run. while_at_most (run.left + 1) (has_due c.args.moment) (fires_first c.args.moment))
    (turning-done (c.args.self.now.ground.run.left + 1) c.loop-turn._turn (has_due c.args.moment) (fires_first c.args.moment)
    (omega (arith, c.loop-turn-test.false, c.from-turns.ensures)) c.loop-turn.invariant)
