use Rattle.std.proofs.Common.{rules, refl, ap, w32}
use Rattle.std.proofs.lemmas.Int.{to_z-of_z}
use Rattle.world_core.specs.Handling.{handles}
use Rattle.world.proofs.Standing.{leads-is}
use Rattle.world.proofs.Turns.{says}
use Rattle.world.proofs.Firing.{taken-proper, taken-calm, taken-goes, taken-ready, works-by}
use Rattle.world.proofs.live.Live.work_on.Goals as goal

pub update-taken-requires-clause-proper : goal.update-taken-requires-clause-proper
update-taken-requires-clause-proper g c = taken-proper c.args.item.owner c.requires.driver c.requires.owner

pub handle-requires-clause-calm : goal.handle-requires-clause-calm
handle-requires-clause-calm g c =
    taken-calm c.args.item c.update-taken.new.self _ c.update-taken.ensures (says _ _ _ refl c.say.ensures) c.requires.ready.calm

pub handle-requires-clause-goes : goal.handle-requires-clause-goes
handle-requires-clause-goes g c =
    taken-goes c.args.item c.update-taken.new.self _ c.update-taken.ensures (says _ _ _ refl c.say.ensures) c.requires.ready.calm c.requires.goes

pub deliver-requires : goal.deliver-requires
deliver-requires g c = record {
  ready =
      taken-ready c.args.item c.update-taken.new.self _ c.update-taken.ensures (says _ _ _ refl c.say.ensures) c.requires.ready
      (leads-is (ap (handles c.args.item.owner c.args.item.handler) (to_z-of_z w32 c.args.item.arg (search rules))) c.handle.ensures);
}

pub returns : goal.returns
returns g c =
    works-by c.args.item c.update-taken.new.self _ c.update-taken.ensures (says _ _ _ refl c.say.ensures)
    (leads-is (ap (handles c.args.item.owner c.args.item.handler) (to_z-of_z w32 c.args.item.arg (search rules))) c.handle.ensures) c.deliver.ensures
