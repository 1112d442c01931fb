use Rattle.std.proofs.Common.{◌≡◌, ◌<◌, ap, length, get_or, arith}
use Rattle.std.proofs.lemmas.List.{get_or_default}
use Rattle.timer_table.proofs.Keyed.{rows_length, rows_replace, listed}
use Rattle.timer_table.proofs.rows.Rows.replace.Goals as goal

pub offset_bounds-as_slice-place : goal.offset_bounds-as_slice-place
offset_bounds-as_slice-place c =
    let long = rows_length c.self.inside.slots c.self.inside.keys.items c.self.invariant in
    let same = ap length c.self.view_is in
    let value = ap length c.as_slice.ensures.value in
    omega arith

pub bounds-as_slice-place : goal.bounds-as_slice-place
bounds-as_slice-place c =
    let long = rows_length c.self.inside.slots c.self.inside.keys.items c.self.invariant in
    let same = ap length c.self.view_is in
    let value = ap length c.as_slice.ensures.value in
    omega arith

pub index_mut-requires : goal.index_mut-requires
index_mut-requires c =
    let long = rows_length c.self.inside.slots c.self.inside.keys.items c.self.invariant in
    let same = ap length c.self.view_is in
    rw c.as_slice.ensures.value (listed c.self.inside.slots c.self.inside.keys.items c.args.place 0 c.self.invariant (omega arith))

pub returns : goal.returns
returns c =
    let keys = c.self.inside.keys.items in
    let long = rows_length c.self.inside.slots keys c.self.invariant in
    let same = ap length c.self.view_is in
    let within : c.args.place < length keys = omega arith in
    let at : get_or keys c.args.place (get_or keys c.args.place 0) ≡ get_or keys c.args.place 0 = get_or_default keys c.args.place (get_or keys c.args.place 0) 0 within in
    rw (c.as_slice.ensures.value, ← c.self.view_is) (rows_replace c.self.inside.slots keys c.args.place (get_or keys c.args.place 0) c.args.row c.self.invariant within at)
