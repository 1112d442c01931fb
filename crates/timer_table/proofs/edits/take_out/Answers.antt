use Rattle.std.proofs.Common.{◌≡◌, sym, ◌∙◌, subst, true, false}
use Rattle.std.proofs.lemmas.Int.{to_z-of_z}
use Rattle.std.specs.List.{list_any}
use mir.Syntax.{w32}
use mir.Val.{SFits}
use Rattle.sd_base.proofs.Removal.{without_first-none}
use Rattle.timer_table.specs.Order.{is_timer}
use Rattle.timer_table.specs.Table.{IsTable, place_in}
use Rattle.timer_table.proofs.Ordered.{removed_at}
use Rattle.timer_table.proofs.Tables.{IsTable-without_timer}
use Rattle.timer_table.proofs.edits.take_out.Goals as goal

pub returns-in_default-clause-gone : goal.returns-in_default-clause-gone
returns-in_default-clause-gone c =
    let fits : SFits w32 c.args.id = c.ranges.id in
    let there : false ≡ list_any (is_timer c.args.owner c.args.id) c.args.rows.now = simp to_z-of_z at c.in_default.ensures.there in
    sym (without_first-none (is_timer c.args.owner c.args.id) c.args.rows.now (sym there))

pub remove-requires : goal.remove-requires
remove-requires c =
    let fits : SFits w32 c.args.id = c.ranges.id in
    let there : true ≡ list_any (is_timer c.args.owner c.args.id) c.args.rows.now = simp to_z-of_z at c.in-Ok.ensures.there in
    let place : c.in-Ok.place ≡ place_in c.args.rows.now c.args.owner c.args.id = simp to_z-of_z at c.in-Ok.ensures.place in
    (removed_at c.args.owner c.args.id c.args.rows.now c.in-Ok.place c.requires.ascending place there).0

pub returns-clause-gone : goal.returns-clause-gone
returns-clause-gone c =
    let fits : SFits w32 c.args.id = c.ranges.id in
    let there : true ≡ list_any (is_timer c.args.owner c.args.id) c.args.rows.now = simp to_z-of_z at c.in-Ok.ensures.there in
    let place : c.in-Ok.place ≡ place_in c.args.rows.now c.args.owner c.args.id = simp to_z-of_z at c.in-Ok.ensures.place in
    c.remove.ensures ∙ (removed_at c.args.owner c.args.id c.args.rows.now c.in-Ok.place c.requires.ascending place there).1

pub returns-clause-table : goal.returns-clause-table
returns-clause-table c =
    let fits : SFits w32 c.args.id = c.ranges.id in
    let there : true ≡ list_any (is_timer c.args.owner c.args.id) c.args.rows.now = simp to_z-of_z at c.in-Ok.ensures.there in
    let place : c.in-Ok.place ≡ place_in c.args.rows.now c.args.owner c.args.id = simp to_z-of_z at c.in-Ok.ensures.place in
    subst IsTable (sym (c.remove.ensures ∙ (removed_at c.args.owner c.args.id c.args.rows.now c.in-Ok.place c.requires.ascending place there).1))
    (IsTable-without_timer c.args.owner c.args.id c.args.rows.now c.requires)
