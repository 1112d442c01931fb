use Rattle.std.proofs.Common.{◌≡◌, ◌<◌, ◌||◌, ltb, sym, ◌∙◌, subst, ap, true, false, rules, arith}
use Rattle.std.proofs.lemmas.Bool.Decides.{nat_tests}
use Rattle.std.proofs.lemmas.Int.{to_z-of_z}
use Rattle.std.specs.Prelude.{is_some, count_by}
use Rattle.std.specs.List.{list_any}
use mir.Syntax.{w32}
use mir.Val.{SFits}
use Rattle.sd_base.specs.Numbers.{number_of}
use Rattle.timer_table.specs.Order.{is_timer, is_owner's}
use Rattle.timer_table.specs.Table.{IsTable, place_in}
use Rattle.timer_table.proofs.Ordered.{replaced_at, inserted_at}
use Rattle.timer_table.proofs.Tables.{IsTable-with_timer, room_for, in_range_of}
use Rattle.timer_table.proofs.edits.put.Goals as goal

pub replace-requires : goal.replace-requires
replace-requires c =
    let fits : SFits w32 c.args.row.id = search rules in
    let there : true ≡ list_any (is_timer c.args.row.owner c.args.row.id) c.args.rows.now = simp to_z-of_z at c.in-Ok.ensures.there in
    let place : c.in-Ok.place ≡ place_in c.args.rows.now c.args.row.owner c.args.row.id = simp to_z-of_z at c.in-Ok.ensures.place in
    (replaced_at c.args.row c.args.rows.now c.in-Ok.place c.requires.table.ascending place there).0

pub insert-requires-clause-room : goal.insert-requires-clause-room
insert-requires-clause-room c =
    room_for c.args.row c.args.rows.now c.requires.table c.requires.owner (subst (λ n. n < 64) c.count_of.ensures c.if-count_of-ge-TIMERS.false)

pub returns-in-Ok-clause-set : goal.returns-in-Ok-clause-set
returns-in-Ok-clause-set c =
    let fits : SFits w32 c.args.row.id = search rules in
    let there : true ≡ list_any (is_timer c.args.row.owner c.args.row.id) c.args.rows.now = simp to_z-of_z at c.in-Ok.ensures.there in
    let place : c.in-Ok.place ≡ place_in c.args.rows.now c.args.row.owner c.args.row.id = simp to_z-of_z at c.in-Ok.ensures.place in
    c.replace.ensures ∙ (replaced_at c.args.row c.args.rows.now c.in-Ok.place c.requires.table.ascending place there).1

pub returns-in-Ok-clause-table : goal.returns-in-Ok-clause-table
returns-in-Ok-clause-table c =
    let fits : SFits w32 c.args.row.id = search rules in
    let there : true ≡ list_any (is_timer c.args.row.owner c.args.row.id) c.args.rows.now = simp to_z-of_z at c.in-Ok.ensures.there in
    let below : is_some (number_of 256 c.args.row.id) ≡ true = simp to_z-of_z at (ap is_some (sym c.number_below.ensures) ∙ c.if-is_none.ensures) in
    let room : (list_any (is_timer c.args.row.owner c.args.row.id) c.args.rows.now || ltb (count_by (is_owner's c.args.row.owner) c.args.rows.now) 64) ≡ true = grind arith in
    subst IsTable (sym (returns-in-Ok-clause-set c)) (IsTable-with_timer c.args.row c.args.rows.now c.requires.table c.requires.owner (in_range_of c.args.row.id below) room)

pub returns-else-count_of-ge-TIMERS-clause-set : goal.returns-else-count_of-ge-TIMERS-clause-set
returns-else-count_of-ge-TIMERS-clause-set c =
    let fits : SFits w32 c.args.row.id = search rules in
    let there : false ≡ list_any (is_timer c.args.row.owner c.args.row.id) c.args.rows.now = simp to_z-of_z at c.in-Err.ensures.there in
    let place : c.in-Err.place ≡ place_in c.args.rows.now c.args.row.owner c.args.row.id = simp to_z-of_z at c.in-Err.ensures.place in
    c.insert.ensures ∙ inserted_at c.args.row c.args.rows.now c.in-Err.place c.requires.table.ascending place there

pub returns-else-count_of-ge-TIMERS-clause-table : goal.returns-else-count_of-ge-TIMERS-clause-table
returns-else-count_of-ge-TIMERS-clause-table c =
    let fits : SFits w32 c.args.row.id = search rules in
    let below : is_some (number_of 256 c.args.row.id) ≡ true = simp to_z-of_z at (ap is_some (sym c.number_below.ensures) ∙ c.if-is_none.ensures) in
    let few : count_by (is_owner's c.args.row.owner) c.args.rows.now < 64 = subst (λ n. n < 64) c.count_of.ensures c.if-count_of-ge-TIMERS.false in
    let room : (list_any (is_timer c.args.row.owner c.args.row.id) c.args.rows.now || ltb (count_by (is_owner's c.args.row.owner) c.args.rows.now) 64) ≡ true = grind (arith, nat_tests) in
    subst IsTable (sym (returns-else-count_of-ge-TIMERS-clause-set c)) (IsTable-with_timer c.args.row c.args.rows.now c.requires.table c.requires.owner (in_range_of c.args.row.id below) room)
