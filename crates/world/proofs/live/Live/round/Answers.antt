use Rattle.world_core.specs.Tasks.{round}
use Rattle.world.proofs.Standing.{leads-then}
use Rattle.world.proofs.Calm.{calm-good, quiets-step}
use Rattle.world.proofs.Lines.{ready-after}
use Rattle.world.proofs.live.Live.round.Goals as goal

pub step-requires-clause-good : goal.step-requires-clause-good
step-requires-clause-good g c = calm-good c.requires.ready.calm

pub deliver-requires : goal.deliver-requires
deliver-requires g c = record { ready = ready-after c.requires.ready c.step.ensures (quiets-step c.args.task c.requires.some) }

pub returns : goal.returns
unfolding round
returns g c = leads-then c.step.ensures c.deliver.ensures
