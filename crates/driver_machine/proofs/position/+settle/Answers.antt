use Rattle.std.proofs.Common.{◌<◌, List, length, sym, ap, ◌∙◌, subst, arith}
use Rattle.checked_tree.specs.declared.statements.CheckedStmt.{CheckedStmt}
use Rattle.driver_machine.specs.declared.position.Place.{Place}
use Rattle.driver_machine.specs.Paths.{list_at}
use Rattle.driver_machine.proofs.PathLaws.{last_of, shorter, part_within, todo_popped}
use Rattle.driver_machine.proofs.position.+settle.Goals as goal

pub place_behind-next-requires : goal.place_behind-next-requires
place_behind-next-requires t c =
    let body : List CheckedStmt = c.args.body.now in
    let rest : List Place = c.pop.new.self.items in
    let last = last_of body c.args.path.now.items rest c.in-Some.place c.in-Some.ensures.items c.requires in
    let same = c.list_at-in-Some.ensures ∙ ap (λ (l : List Place). list_at body l) c.as_slice-in-Some.ensures.value in
    subst (λ (l : List CheckedStmt). c.in-Some.place.at < length l) (sym same) (part_within (list_at body rest) c.in-Some.place.at c.in-Some.place.holds last.part)

pub settle-requires : goal.settle-requires
settle-requires t c =
    let body : List CheckedStmt = c.args.body.now in
    let rest : List Place = c.pop.new.self.items in
    let last = last_of body c.args.path.now.items rest c.in-Some.place c.in-Some.ensures.items c.requires in
    let fewer = shorter c.args.path.now.items rest c.in-Some.place c.in-Some.ensures.items in
    let measure = c.decreases in
    (omega (arith, fewer, measure), last.path)

pub returns-in-Some-clause-todo : goal.returns-in-Some-clause-todo
returns-in-Some-clause-todo t c =
    let body : List CheckedStmt = c.args.body.now in
    let path : List Place = c.args.path.now.items in
    c.settle.ensures.todo
    ∙ todo_popped body path c.pop.new.self.items c.in-Some.place c.args.at c.place_behind-next.result c.list_at.result.now c.list_at-in-Some.result.now
    c.in-Some.ensures.items
    (c.list_at.ensures ∙ ap (λ (l : List Place). list_at body l) c.as_slice.ensures.value)
    c.if-at-list_at.false
    (c.list_at-in-Some.ensures ∙ ap (λ (l : List Place). list_at body l) c.as_slice-in-Some.ensures.value)
    c.place_behind-next.ensures
