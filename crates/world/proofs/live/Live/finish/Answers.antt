use Rattle.std.proofs.Common.{◌+◌, ap}
use Rattle.world_core.specs.Tasks.{run, finish}
use Rattle.world.proofs.Standing.{leads-is, leads-by_run}
use Rattle.world.proofs.live.Live.finish.Goals as goal

pub returns : goal.returns
unfolding finish
returns g c = leads-by_run (λ state. run c.args.task (state.left + 1)) (leads-is (ap (λ m. run c.args.task (m + 1)) c.from-turns.ensures) c.run.ensures)
