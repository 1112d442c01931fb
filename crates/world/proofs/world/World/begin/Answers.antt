use Rattle.std.proofs.Common.{◌∙◌, [], length, refl, replicate, subst}
use Rattle.device_model.specs.Scripted.{nothing_scripted}
use Rattle.driver_host.specs.Hosting.{IsHost}
use Rattle.world_core.specs.WorldState.{empty_arena}
use Rattle.world.proofs.WholeRuns.{begun-first}
use Rattle.world.proofs.world.World.begin.Goals as goal

pub returns : goal.returns
returns c =
    begun-first _ c.args.drivers.items c.args.version c.args.answers.now c.args.bound refl c.first_run.ensures refl refl
    (subst (λ share. IsHost share c.in_ok-host.host [] (replicate (length c.args.drivers.items) empty_arena) (nothing_scripted (length c.args.answers.now)))
    c.share_of.ensures
    (subst (λ n. IsHost c.share_of.result c.in_ok-host.host [] (replicate n empty_arena) (nothing_scripted (length c.args.answers.now)))
    (c.len.ensures ∙ c.args.drivers.ok.0) c.in_ok-host.ensures))
    c.in_ok-machine.ensures c.requires.few
