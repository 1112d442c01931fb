use Rattle.std.proofs.Common.{false, refl}
use Rattle.world_core.specs.Delivering.{with_waiting, delivers}
use Rattle.world.proofs.Standing.{leads-then, leads-run}
use Rattle.world.proofs.Calm.{calm-after, quiets-lines}
use Rattle.world.proofs.Lines.{holders-serve}
use Rattle.world.proofs.live.Live.deliver_line.Goals as goal

pub serve_line-requires : goal.serve_line-requires
serve_line-requires g c = record {
  calm =
      calm-after c.requires.ready.calm (leads-run _ _ _ (with_waiting c.args.line false) c.set_waiting.ensures refl refl refl) (quiets-lines c.args.line false);
}

pub returns : goal.returns
unfolding delivers
returns g c = leads-then (leads-run _ _ _ (with_waiting c.args.line false) c.set_waiting.ensures refl refl refl)
    (holders-serve _ _ _ c.args.line _ c.requires.ready.share c.read_holders-holders.ensures c.serve_line.ensures)
