use Rattle.std.proofs.Common.{List, ap, ◌∙◌, arith}
use Rattle.driver_machine.specs.declared.position.Place.{Place}
use Rattle.driver_machine.specs.Paths.{list_at}
use Rattle.driver_machine.proofs.Entering.{room, todo_passed, todo_entered, ready_entered}
use Rattle.driver_machine.proofs.position.Position.turn_into.Goals as goal

pub push-requires : goal.push-requires
push-requires c = (
  omega arith,
  room c.args.body.now c.args.self.now.path.items c.args.self.now.at c.args.holds c.list_at-list.result.now c.part_at.result.now c.is_empty.result
      (record { list_is = c.list_at-list.ensures ∙ ap (λ (l : List Place). list_at c.args.body.now l) c.as_slice.ensures.value; found_is = c.part_at.ensures; none_is = c.is_empty.ensures })
      c.if-is_empty.false c.requires.nesting c.requires.ready.0,
)

pub returns-then-is_empty-clause-todo : goal.returns-then-is_empty-clause-todo
returns-then-is_empty-clause-todo c =
    c.settle-self.ensures.todo
    ∙ todo_passed c.args.body.now c.args.self.now.path.items c.args.self.now.at c.args.holds c.list_at-list.result.now c.part_at.result.now c.is_empty.result c.place_behind-next.result
    (record { list_is = c.list_at-list.ensures ∙ ap (λ (l : List Place). list_at c.args.body.now l) c.as_slice.ensures.value; found_is = c.part_at.ensures; none_is = c.is_empty.ensures })
    c.if-is_empty.true c.requires.stands c.place_behind-next.ensures

pub returns-else-is_empty-clause-todo : goal.returns-else-is_empty-clause-todo
returns-else-is_empty-clause-todo c =
    todo_entered c.args.body.now c.args.self.now.path.items c.push.new.self.items c.args.self.now.at c.args.holds c.push.ensures.items c.requires.stands

pub returns-else-is_empty-clause-ready : goal.returns-else-is_empty-clause-ready
returns-else-is_empty-clause-ready c =
    ready_entered c.args.body.now c.args.self.now.path.items c.push.new.self.items c.args.self.now.at c.args.holds c.list_at-list.result.now c.part_at.result.now c.is_empty.result
    (record { list_is = c.list_at-list.ensures ∙ ap (λ (l : List Place). list_at c.args.body.now l) c.as_slice.ensures.value; found_is = c.part_at.ensures; none_is = c.is_empty.ensures })
    c.if-is_empty.false c.push.ensures.items c.requires.ready.0
