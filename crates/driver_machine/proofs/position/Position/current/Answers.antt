use Rattle.std.proofs.Common.{List, ◌<◌, length, slice_get, ap, ◌∙◌, subst}
use Rattle.checked_tree.specs.declared.statements.CheckedStmt.{CheckedStmt}
use Rattle.driver_machine.specs.declared.position.Place.{Place}
use Rattle.driver_machine.specs.Paths.{list_at}
use Rattle.driver_machine.proofs.Turns.{first_stands}
use Rattle.driver_machine.proofs.position.Position.current.Goals as goal

pub returns-clause-first : goal.returns-clause-first
returns-clause-first c =
    let body : List CheckedStmt = c.args.body.now in
    let list = c.list_at.ensures ∙ ap (λ (l : List Place). list_at body l) c.as_slice.ensures.value in
    c.statement_at.ensures.value ∙ (ap (λ (l : List CheckedStmt). slice_get l c.args.self.now.at) list ∙ first_stands body c.args.self.now.path.items c.args.self.now.at c.requires.1)

pub returns-clause-stands : goal.returns-clause-stands
returns-clause-stands c some =
    let body : List CheckedStmt = c.args.body.now in
    let list = c.list_at.ensures ∙ ap (λ (l : List Place). list_at body l) c.as_slice.ensures.value in
    subst (λ (l : List CheckedStmt). c.args.self.now.at < length l) list (c.statement_at.ensures.within some)
