use Rattle.std.proofs.Common.{[], ◌∷◌, ap, w32}
use Rattle.std.proofs.lemmas.Int.{to_z-of_z}
use Rattle.world_core.specs.Script.{on_tasks, by_plan}
use Rattle.world_core.specs.Handling.{begun, handles}
use Rattle.world.proofs.Standing.{leads-then, leads-is, good-after}
use Rattle.world.proofs.Calm.{calm-good, calm-idle}
use Rattle.world.proofs.live.Live.handle.Goals as goal

pub begin-requires-clause-idle : goal.begin-requires-clause-idle
begin-requires-clause-idle g c = calm-idle c.requires.calm c.requires.goes

pub run_to_end-requires-clause-good : goal.run_to_end-requires-clause-good
run_to_end-requires-clause-good g c = good-after (calm-good c.requires.calm) (c.begin.ensures _ _ _)

pub returns : goal.returns
unfolding handles
returns g c = leads-then
    (leads-is (ap (λ z. by_plan (λ plan. on_tasks (begun plan 0 c.args.owner c.args.function (z ∷ [])))) (to_z-of_z w32 c.args.argument c.ranges.argument))
    (c.begin.ensures _ _ _))
    c.run_to_end.ensures
