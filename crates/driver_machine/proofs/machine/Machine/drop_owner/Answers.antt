use Rattle.std.proofs.Common.{List, map, sym, ap, ◌∙◌, subst}
use Rattle.std.proofs.lemmas.List.{with_items_is}
use Rattle.driver_machine.specs.declared.task.Task.{Task}
use Rattle.driver_machine.specs.Machines.{Drops, IsMachine, dropped}
use Rattle.driver_machine.proofs.MachineLaws.{dropped_machine, drops}
use Rattle.driver_machine.proofs.machine.Machine.drop_owner.Goals as goal

pub invariant_of-self : goal.invariant_of-self
invariant_of-self c =
    subst (λ (l : List Task). IsMachine l c.self.inside.arguments.items)
    (sym (with_items_is c.self.inside.tasks c.drop_rows.new.tasks (c.drop_rows.auto.tasks ∙ c.as_mut_slice.ensures.len)))
    (dropped_machine c.args.owner c.self.inside.tasks.items c.drop_rows.new.tasks c.self.inside.arguments.items
    (c.drop_rows.ensures ∙ ap (map (dropped c.args.owner)) c.as_mut_slice.ensures.value) c.self.invariant)

pub returns : goal.returns
returns c =
    subst (Drops c.args.owner c.args.self.now)
    (sym (with_items_is c.self.inside.tasks c.drop_rows.new.tasks (c.drop_rows.auto.tasks ∙ c.as_mut_slice.ensures.len)))
    (drops c.args.owner c.args.self.now c.drop_rows.new.tasks
    (c.drop_rows.ensures ∙ ap (map (dropped c.args.owner)) (c.as_mut_slice.ensures.value ∙ c.self.view_is)))
