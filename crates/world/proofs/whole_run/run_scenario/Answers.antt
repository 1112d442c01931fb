use Rattle.world.proofs.WholeRuns.{run-closes, begun-plays, begun-with, begun-room, ok-written, ok-calm, ok-ended, err-faults}
use Rattle.world.proofs.whole_run.run_scenario.Goals as goal

pub play-requires-clause-opens : goal.play-requires-clause-opens
play-requires-clause-opens g c = c.in-Ok.ensures.opens _ _

pub play-requires-clause-plays : goal.play-requires-clause-plays
play-requires-clause-plays g c = begun-plays _ c.args.scenario.now _ _ (begun-with c.as_slice.ensures.value c.in-Ok.ensures) c.requires.plays

pub play-requires-clause-room : goal.play-requires-clause-room
play-requires-clause-room g c = begun-room _ _ _ _ _ (begun-with c.as_slice.ensures.value c.in-Ok.ensures)

pub returns-in-Ok-clause-written : goal.returns-in-Ok-clause-written
returns-in-Ok-clause-written g c =
    ok-written _ c.args.scenario.now _ _ _ _ _ _ (run-closes _ c.args.scenario.now _ _ _ _ _ _ _ (begun-with c.as_slice.ensures.value c.in-Ok.ensures) c.play.ensures)

pub returns-in-Ok-clause-calm : goal.returns-in-Ok-clause-calm
returns-in-Ok-clause-calm g c =
    ok-calm _ c.args.scenario.now _ _ _ _ _ _ (run-closes _ c.args.scenario.now _ _ _ _ _ _ _ (begun-with c.as_slice.ensures.value c.in-Ok.ensures) c.play.ensures)

pub returns-in-Ok-clause-ended : goal.returns-in-Ok-clause-ended
returns-in-Ok-clause-ended g c =
    ok-ended _ c.args.scenario.now _ _ _ _ _ _ (run-closes _ c.args.scenario.now _ _ _ _ _ _ _ (begun-with c.as_slice.ensures.value c.in-Ok.ensures) c.play.ensures)

pub returns-in-Ok-clause-fault : goal.returns-in-Ok-clause-fault
returns-in-Ok-clause-fault g c =
    err-faults _ c.args.scenario.now _ _ _ _ _ _ (run-closes _ c.args.scenario.now _ _ _ _ _ _ _ (begun-with c.as_slice.ensures.value c.in-Ok.ensures) c.play.ensures)
