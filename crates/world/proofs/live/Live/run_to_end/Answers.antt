use Rattle.std.proofs.Common.{◌+◌, arith}
use Rattle.world_core.specs.Script.{while_at_most}
use Rattle.world_core.specs.Stepping.{step, goes_on, runs_to_end}
use Rattle.world.proofs.Standing.{leads-by_run}
use Rattle.world.proofs.Turns.{good-start, good-next, good-ends, good-done, task-runs}
use Rattle.world.proofs.live.Live.run_to_end.Goals as goal

pub loop-turn-init : goal.loop-turn-init
loop-turn-init g c = good-start (c.args.self.now.ground.run.left + 1) (goes_on c.args.task) (step c.args.task) c.requires.good

pub returns-then-not-goes_on : goal.returns-then-not-goes_on
unfolding runs_to_end
returns-then-not-goes_on g c = leads-by_run (λ run. while_at_most (run.left + 1) (goes_on c.args.task) (step c.args.task))
    (good-ends (c.args.self.now.ground.run.left + 1) c.loop-turn._turn (goes_on c.args.task) (step c.args.task) c.loop-turn.invariant
    (task-runs _ _ c.args.task c.goes_on.result _ c.goes_on.ensures c.if-not-goes_on.true))

pub step-requires-clause-good : goal.step-requires-clause-good
step-requires-clause-good g c = c.loop-turn.invariant.good

pub loop-turn-preserved : goal.loop-turn-preserved
loop-turn-preserved g c =
    good-next (c.args.self.now.ground.run.left + 1) c.loop-turn._turn (goes_on c.args.task) (step c.args.task)
    (omega (arith, c.loop-turn-test.true, c.from-turns.ensures)) c.loop-turn.invariant
    (task-runs _ _ c.args.task c.goes_on.result _ c.goes_on.ensures c.if-not-goes_on.false) c.step.ensures

pub returns : goal.returns
unfolding runs_to_end
returns g c = leads-by_run (λ run. while_at_most (run.left + 1) (goes_on c.args.task) (step c.args.task))
    (good-done (c.args.self.now.ground.run.left + 1) c.loop-turn._turn (goes_on c.args.task) (step c.args.task)
    (omega (arith, c.loop-turn-test.false, c.from-turns.ensures)) c.loop-turn.invariant)
