use Rattle.std.proofs.Common.{◌≡◌, Some, None, sym, ◌∙◌}
use Rattle.std.proofs.lemmas.Int.{to_z-of_z}
use mir.Syntax.{w32}
use mir.Val.{SFits}
use Rattle.timer_table.specs.Order.{is_timer}
use Rattle.timer_table.specs.Table.{place_in}
use Rattle.timer_table.proofs.Ordered.{found}
use Rattle.timer_table.proofs.places.find.Goals as goal

pub returns-in-Some-clause-there : goal.returns-in-Some-clause-there
returns-in-Some-clause-there c =
    let fits : SFits w32 c.args.id = c.ranges.id in
    let place : c.place_of-place.result ≡ place_in c.args.rows.now c.args.owner c.args.id = simp to_z-of_z at c.place_of-place.ensures in
    let here : c.is_timer.result ≡ is_timer c.args.owner c.args.id c.in-Some.row = simp to_z-of_z at c.is_timer.ensures in
    sym c.if-is_timer.true ∙ here ∙ found c.args.owner c.args.id c.args.rows.now c.place_of-place.result (Some c.in-Some.row) c.requires place (sym c.get.ensures ∙ c.in-Some.is)

pub returns-in_default-clause-there : goal.returns-in_default-clause-there
returns-in_default-clause-there c =
    let fits : SFits w32 c.args.id = c.ranges.id in
    let place : c.place_of-place.result ≡ place_in c.args.rows.now c.args.owner c.args.id = simp to_z-of_z at c.place_of-place.ensures in
    let here : c.is_timer.result ≡ is_timer c.args.owner c.args.id c.in-Some.row = simp to_z-of_z at c.is_timer.ensures in
    sym c.if-is_timer.false ∙ here ∙ found c.args.owner c.args.id c.args.rows.now c.place_of-place.result (Some c.in-Some.row) c.requires place (sym c.get.ensures ∙ c.in-Some.is)

pub returns-in_default-2-clause-there : goal.returns-in_default-2-clause-there
returns-in_default-2-clause-there c =
    let fits : SFits w32 c.args.id = c.ranges.id in
    let place : c.place_of-place.result ≡ place_in c.args.rows.now c.args.owner c.args.id = simp to_z-of_z at c.place_of-place.ensures in
    found c.args.owner c.args.id c.args.rows.now c.place_of-place.result None c.requires place (sym c.get.ensures ∙ c.in_default.is)
