use Rattle.world_core.specs.Inputs.{has_work, works_one, work}
use Rattle.world.proofs.Fronts.{no-work, a-work, front-works}
use Rattle.world.proofs.Resting.{rests-works_one}
use Rattle.world.proofs.Turns.{turning-start, turning-next, turning-ends, turning-done}
use Rattle.world.proofs.Firing.{work-facts}
use Rattle.world.proofs.live.Live.work.Goals as goal

pub loop-turn-init : goal.loop-turn-init
loop-turn-init g c = turning-start c.args.n has_work works_one c.requires.ready

pub work_on-requires-clause-ready : goal.work_on-requires-clause-ready
work_on-requires-clause-ready g c = c.loop-turn.invariant.ready

pub work_on-requires-clause-goes : goal.work_on-requires-clause-goes
work_on-requires-clause-goes g c = (work-facts c.in-Some.item c.loop-turn.invariant.ready.calm c.in-Some.ensures).0

pub work_on-requires-clause-driver : goal.work_on-requires-clause-driver
work_on-requires-clause-driver g c = (work-facts c.in-Some.item c.loop-turn.invariant.ready.calm c.in-Some.ensures).1

pub work_on-requires-clause-owner : goal.work_on-requires-clause-owner
work_on-requires-clause-owner g c = (work-facts c.in-Some.item c.loop-turn.invariant.ready.calm c.in-Some.ensures).2

pub returns-in-None : goal.returns-in-None
unfolding work
returns-in-None g c = turning-ends c.args.n c.loop-turn._turn has_work works_one c.loop-turn.invariant (no-work _ _ c.in-None.ensures)

pub loop-turn-preserved : goal.loop-turn-preserved
loop-turn-preserved g c = turning-next c.args.n c.loop-turn._turn has_work works_one c.loop-turn-test.true c.loop-turn.invariant
    (a-work _ _ c.in-Some.item c.in-Some.ensures) (front-works _ _ _ c.in-Some.item c.in-Some.ensures c.work_on.ensures) rests-works_one

pub returns : goal.returns
unfolding work
returns g c = turning-done c.args.n c.loop-turn._turn has_work works_one c.loop-turn-test.false c.loop-turn.invariant
