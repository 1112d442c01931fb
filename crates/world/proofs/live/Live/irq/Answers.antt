use Rattle.std.proofs.Common.{true, refl}
use Rattle.world_core.specs.Delivering.{with_waiting, irq}
use Rattle.world.proofs.Standing.{leads-then, leads-run}
use Rattle.world.proofs.Calm.{quiets-lines}
use Rattle.world.proofs.Lines.{ready-after}
use Rattle.world.proofs.live.Live.irq.Goals as goal

pub deliver-requires : goal.deliver-requires
deliver-requires g c = record {
  ready =
      ready-after c.requires.ready (leads-run _ _ _ (with_waiting c.args.line true) c.set_waiting.ensures refl refl refl) (quiets-lines c.args.line true);
}

pub returns : goal.returns
unfolding irq
returns g c = leads-then (leads-run _ _ _ (with_waiting c.args.line true) c.set_waiting.ensures refl refl refl)
    (leads-then c.deliver.ensures c.say_waiting.ensures)
