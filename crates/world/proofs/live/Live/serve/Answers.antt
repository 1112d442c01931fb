use Rattle.std.proofs.Common.{refl, ap, ◌∙◌, w32}
use Rattle.std.proofs.lemmas.Int.{to_z-of_z}
use Rattle.world_core.specs.WorldState.{is_over}
use Rattle.world_core.specs.Handling.{handles}
use Rattle.world_core.specs.Delivering.{serves}
use Rattle.world.proofs.Standing.{leads-then, leads-is}
use Rattle.world.proofs.Calm.{calm-good, calm-after}
use Rattle.world.proofs.Resting.{rests-say}
use Rattle.world.proofs.Turns.{says, run-kept}
use Rattle.world.proofs.live.Live.serve.Goals as goal

pub handle-requires-clause-calm : goal.handle-requires-clause-calm
handle-requires-clause-calm g c = calm-after c.requires.calm (says _ _ _ refl c.say.ensures) (rests-say _)

pub handle-requires-clause-goes : goal.handle-requires-clause-goes
handle-requires-clause-goes g c = ap is_over (run-kept (calm-good c.requires.calm) (says _ _ _ refl c.say.ensures) (λ s. refl)) ∙ c.requires.goes

pub returns : goal.returns
unfolding serves
returns g c = leads-then (says _ _ _ refl c.say.ensures)
    (leads-is (ap (handles c.args.holder.owner c.args.holder.handler) (to_z-of_z w32 c.from.result (record { sfits = c.from.type_inv }) ∙ c.from.ensures))
    c.handle.ensures)
