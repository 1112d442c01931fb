use Rattle.world_core.specs.Delivering.{can_deliver, delivers_least, deliver}
use Rattle.world.proofs.Calm.{quiets-delivers_least}
use Rattle.world.proofs.Lines.{no-line, a-line, least-served}
use Rattle.world.proofs.Turns.{turning-start, turning-next, turning-ends, turning-done}
use Rattle.world.proofs.live.Live.deliver.Goals as goal

pub loop-turn-init : goal.loop-turn-init
loop-turn-init g c = turning-start 64 can_deliver delivers_least c.requires.ready

pub deliver_line-requires : goal.deliver_line-requires
deliver_line-requires g c = record { ready = c.loop-turn.invariant.ready }

pub returns-in-None : goal.returns-in-None
unfolding deliver
returns-in-None g c = turning-ends 64 c.loop-turn._turn can_deliver delivers_least c.loop-turn.invariant
    (no-line _ _ c.in-None.ensures)

pub loop-turn-preserved : goal.loop-turn-preserved
loop-turn-preserved g c = turning-next 64 c.loop-turn._turn can_deliver delivers_least c.loop-turn-test.true c.loop-turn.invariant
    (a-line _ _ c.in-Some.line c.in-Some.ensures)
    (least-served _ _ _ c.in-Some.line c.in-Some.ensures c.deliver_line.ensures)
    quiets-delivers_least

pub returns : goal.returns
unfolding deliver
returns g c = turning-done 64 c.loop-turn._turn can_deliver delivers_least c.loop-turn-test.false c.loop-turn.invariant
