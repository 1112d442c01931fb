use Rattle.std.proofs.Common.{◌-◌, ◌<◌, refl, sym, ap, ◌∙◌, subst, arith, length}
use Rattle.std.proofs.lemmas.List.{with_items_is}
use Rattle.driver_machine.specs.Machines.{owner_after}
use Rattle.world.proofs.Acting.{task-place, task-belongs, task-steps}
use Rattle.world.proofs.live.Live.step_activity.Goals as goal

pub step_machine-requires-clause-belongs : goal.step_machine-requires-clause-belongs
step_machine-requires-clause-belongs c =
    task-belongs _ c.args.who.task c.args.who.owner c.args.driver.now c.requires.live c.requires.driver c.requires.good.good

pub step_machine-requires-clause-place : goal.step_machine-requires-clause-place
step_machine-requires-clause-place c =
    let place = task-place c.args.who.task c.args.who.owner c.requires.live c.requires.good.good in
    let some = place.0 in
    let within = place.1 in
    subst (λ ms. c.from-place.result - 1 < length ms) (sym c.as_mut_slice.ensures.value)
    (omega (arith, some, within, c.from-place.ensures))

pub returns-clause-steps : goal.returns-clause-steps
returns-clause-steps c = task-steps _ c.args.self.now _ c.args.who c.args.driver.now c.from-place.result _ c.step_machine.new.memories c.step_machine.result
    c.requires.task c.requires.driver c.requires.live c.requires.good c.from-place.ensures c.as_mut_slice.ensures.value
    c.step_machine.ensures.comes c.step_machine.ensures.belongs c.step_machine.ensures.owner c.step_machine.ensures.others c.step_machine.ensures.memories
    refl refl (with_items_is c.args.self.now.ground.host.memories c.step_machine.new.memories (c.step_machine.auto.memories ∙ c.as_mut_slice.ensures.len)) refl refl

pub returns-clause-owner : goal.returns-clause-owner
returns-clause-owner c = c.step_machine.ensures.owner ∙ ap (owner_after c.step_machine.result) c.requires.live
