use Rattle.std.proofs.Common.{arith}
use Rattle.world_core.specs.Script.{while_at_most}
use Rattle.world_core.specs.Restarting.{restarts_left, has_due_driver, restarts_driver, restarts_least, restarts}
use Rattle.world.proofs.Standing.{leads-by_run}
use Rattle.world.proofs.Resting.{rests-restarts_driver}
use Rattle.world.proofs.Due.{sets-restarts_driver, no-driver, a-driver, least-restarted, has-task}
use Rattle.world.proofs.Turns.{turning-ends, turning-done, due-start, due-next}
use Rattle.world.proofs.live.Live.restart_all.Goals as goal

pub loop-turn-init : goal.loop-turn-init
loop-turn-init g c = due-start (restarts_left c.args.self.now.ground.run.drivers) has_due_driver restarts_least c.requires.ready c.requires.due

pub returns-in-None : goal.returns-in-None
unfolding restarts
returns-in-None g c = leads-by_run (λ run. while_at_most (restarts_left run.drivers) has_due_driver restarts_least)
    (turning-ends (restarts_left c.args.self.now.ground.run.drivers) c.loop-turn._turn has_due_driver restarts_least c.loop-turn.invariant.turning
    (no-driver _ _ c.in-None.ensures))

pub restart_driver-requires-clause-ready : goal.restart_driver-requires-clause-ready
restart_driver-requires-clause-ready g c = c.loop-turn.invariant.turning.ready

pub restart_driver-requires-clause-some : goal.restart_driver-requires-clause-some
restart_driver-requires-clause-some g c = (has-task c.loop-turn.self.ground.run c.in-Some.driver c.loop-turn.invariant.due c.in-Some.ensures).0

pub restart_driver-requires-clause-few : goal.restart_driver-requires-clause-few
restart_driver-requires-clause-few g c = (has-task c.loop-turn.self.ground.run c.in-Some.driver c.loop-turn.invariant.due c.in-Some.ensures).1

pub loop-turn-preserved : goal.loop-turn-preserved
loop-turn-preserved g c =
    due-next (restarts_left c.args.self.now.ground.run.drivers) c.loop-turn._turn has_due_driver restarts_least
    (restarts_driver c.loop-turn.self.ground.run c.in-Some.driver) (omega (arith, c.loop-turn-test.true, c.restarts_left-turns.ensures))
    c.loop-turn.invariant (a-driver _ _ c.in-Some.driver c.in-Some.ensures)
    (least-restarted _ _ _ c.in-Some.driver c.in-Some.ensures c.restart_driver.ensures) c.restart_driver.ensures
    (rests-restarts_driver c.loop-turn.self.ground.run c.in-Some.driver
    (has-task c.loop-turn.self.ground.run c.in-Some.driver c.loop-turn.invariant.due c.in-Some.ensures).0)
    (sets-restarts_driver c.loop-turn.self.ground.run c.in-Some.driver)

pub returns : goal.returns
unfolding restarts
returns g c = leads-by_run (λ run. while_at_most (restarts_left run.drivers) has_due_driver restarts_least)
    (turning-done (restarts_left c.args.self.now.ground.run.drivers) c.loop-turn._turn has_due_driver restarts_least
    (omega (arith, c.loop-turn-test.false, c.restarts_left-turns.ensures)) c.loop-turn.invariant.turning)
