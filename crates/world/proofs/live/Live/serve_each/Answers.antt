use Rattle.world.proofs.Standing.{leads-then}
use Rattle.world.proofs.Calm.{calm-after}
use Rattle.world.proofs.Turns.{rests-if}
use Rattle.world.proofs.live.Live.serve_each.Goals as goal

pub serve_if-requires-2 : goal.serve_if-requires-2
serve_if-requires-2 g c = record { calm = calm-after c.requires.calm c.serve_if.ensures (rests-if _ _) }

pub serve_if-requires-3 : goal.serve_if-requires-3
serve_if-requires-3 g c = record {
  calm =
      calm-after (calm-after c.requires.calm c.serve_if.ensures (rests-if _ _)) c.serve_if-2.ensures (rests-if _ _);
}

pub serve_if-requires-4 : goal.serve_if-requires-4
serve_if-requires-4 g c = record {
  calm =
      calm-after (calm-after (calm-after c.requires.calm c.serve_if.ensures (rests-if _ _)) c.serve_if-2.ensures (rests-if _ _)) c.serve_if-3.ensures
      (rests-if _ _);
}

pub returns : goal.returns
returns g c = leads-then c.serve_if.ensures (leads-then c.serve_if-2.ensures (leads-then c.serve_if-3.ensures c.serve_if-4.ensures))
