use Rattle.std.proofs.Common.{ap, refl, ◌∙◌}
use Rattle.world_core.specs.Events.{end_item}
use Rattle.world.proofs.Playing.{carries-end}
use Rattle.world.proofs.Turns.{says}
use Rattle.world.proofs.world.World.end.Goals as goal

pub returns : goal.returns
returns g c = λ answers. carries-end answers _ _ _ _ c.last_item-item.result refl refl
    (c.last_item-item.ensures ∙ ap (end_item c.args.self.now.live.ground.run.is_stopped) c.saturating_sub-steps.ensures) (says _ _ _ refl c.say.ensures)
