use Rattle.std.proofs.Common.{refl, sym, ap, subst, ◌<◌, ◌≤◌}
use Rattle.world_core.specs.declared.run_state.DriverState.{DriverState}
use Rattle.world_core.specs.Restarting.{one_restart_used}
use Rattle.world.proofs.Standing.{leads-run, good-after}
use Rattle.world.proofs.Calm.{calm-good}
use Rattle.world.proofs.Lines.{ready-after}
use Rattle.world.proofs.Resting.{rests-used, rests-restart}
use Rattle.world.proofs.Firing.{restarted-by}
use Rattle.world.proofs.live.Live.restart_driver.Goals as goal

pub restart-requires-clause-some : goal.restart-requires-clause-some
restart-requires-clause-some g c = subst (λ (d : DriverState). 0 < d.task) (sym c.driver-state.ensures) c.requires.some

pub restart-requires-clause-task : goal.restart-requires-clause-task
restart-requires-clause-task g c = subst (λ (d : DriverState). d.task ≤ 8) (sym c.driver-state.ensures) c.requires.few

pub restart-requires-clause-good : goal.restart-requires-clause-good
restart-requires-clause-good g c = good-after (calm-good c.requires.ready.calm)
    (leads-run _ _ _ (one_restart_used c.args.driver) c.use_restart.ensures refl refl refl)

pub deliver-requires : goal.deliver-requires
deliver-requires g c = record {
  ready = ready-after
      (ready-after c.requires.ready (leads-run _ _ _ (one_restart_used c.args.driver) c.use_restart.ensures refl refl refl) (rests-used c.args.driver))
      c.restart.ensures (rests-restart c.args.driver c.driver-state.result.task (subst (λ (d : DriverState). 0 < d.task) (sym c.driver-state.ensures) c.requires.some));
}

pub returns : goal.returns
returns g c = restarted-by c.args.self.now.ground.run c.args.driver c.driver-state.result.task (ap (λ (d : DriverState). d.task) c.driver-state.ensures)
    (leads-run _ _ _ (one_restart_used c.args.driver) c.use_restart.ensures refl refl refl) c.restart.ensures c.deliver.ensures
