use Rattle.std.proofs.Common.{rules, refl, ap, subst, w32}
use Rattle.std.proofs.lemmas.Int.{to_z-of_z}
use Rattle.sd_base.specs.declared.history.Update.TheVariants as update
use Rattle.run_report.specs.declared.item.Item.TheVariants as item
use Rattle.driver_host.specs.Hosting.{Updates}
use Rattle.world_core.specs.Script.{say}
use Rattle.world_core.specs.Handling.{handles}
use Rattle.world.proofs.Standing.{leads-is}
use Rattle.world.proofs.Turns.{says}
use Rattle.world.proofs.Firing.{fired-proper, fired-calm, fired-goes, fired-ready, fires-by}
use Rattle.world.proofs.live.Live.fire.Goals as goal

pub update-fired-requires-clause-proper : goal.update-fired-requires-clause-proper
update-fired-requires-clause-proper g c = fired-proper c.args.timer.owner c.args.timer.id c.requires.driver c.requires.owner

pub handle-requires-clause-calm : goal.handle-requires-clause-calm
handle-requires-clause-calm g c =
    fired-calm c.args.timer c.update-clock.new.self c.update-fired.new.self _ _ c.update-clock.ensures
    (subst (λ z. Updates c.update-clock.new.self c.args.timer.owner (update.Fired z) c.update-fired.result c.update-fired.new.self)
    (to_z-of_z w32 c.args.timer.id (search rules)) c.update-fired.ensures)
    (leads-is (ap (λ z. say (item.Timer c.args.timer.owner z)) (to_z-of_z w32 c.args.timer.id (search rules))) (says _ _ _ refl c.say.ensures)) c.requires.ready.calm

pub handle-requires-clause-goes : goal.handle-requires-clause-goes
handle-requires-clause-goes g c =
    fired-goes c.args.timer c.update-clock.new.self c.update-fired.new.self _ _ c.update-clock.ensures
    (subst (λ z. Updates c.update-clock.new.self c.args.timer.owner (update.Fired z) c.update-fired.result c.update-fired.new.self)
    (to_z-of_z w32 c.args.timer.id (search rules)) c.update-fired.ensures)
    (leads-is (ap (λ z. say (item.Timer c.args.timer.owner z)) (to_z-of_z w32 c.args.timer.id (search rules))) (says _ _ _ refl c.say.ensures)) c.requires.ready.calm c.requires.goes

pub deliver-requires : goal.deliver-requires
deliver-requires g c = record {
  ready =
      fired-ready c.args.timer c.update-clock.new.self c.update-fired.new.self _ _ c.update-clock.ensures
      (subst (λ z. Updates c.update-clock.new.self c.args.timer.owner (update.Fired z) c.update-fired.result c.update-fired.new.self)
      (to_z-of_z w32 c.args.timer.id (search rules)) c.update-fired.ensures)
      (leads-is (ap (λ z. say (item.Timer c.args.timer.owner z)) (to_z-of_z w32 c.args.timer.id (search rules))) (says _ _ _ refl c.say.ensures)) c.requires.ready
      (leads-is (ap (handles c.args.timer.owner c.args.timer.handler) (to_z-of_z w32 c.args.timer.arg (search rules))) c.handle.ensures);
}

pub returns : goal.returns
returns g c =
    fires-by c.args.timer c.update-clock.new.self c.update-fired.new.self _ _ c.update-clock.ensures
    (subst (λ z. Updates c.update-clock.new.self c.args.timer.owner (update.Fired z) c.update-fired.result c.update-fired.new.self)
    (to_z-of_z w32 c.args.timer.id (search rules)) c.update-fired.ensures)
    (leads-is (ap (λ z. say (item.Timer c.args.timer.owner z)) (to_z-of_z w32 c.args.timer.id (search rules))) (says _ _ _ refl c.say.ensures))
    (leads-is (ap (handles c.args.timer.owner c.args.timer.handler) (to_z-of_z w32 c.args.timer.arg (search rules))) c.handle.ensures) c.deliver.ensures
