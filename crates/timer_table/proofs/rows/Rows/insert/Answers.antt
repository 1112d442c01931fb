use Rattle.std.proofs.Common.{ap, length, arith, lit<}
use Rattle.timer_table.proofs.Keyed.{rows_length, rows_insert}
use Rattle.timer_table.proofs.rows.Rows.insert.Goals as goal

pub insert_reserved-key-requires : goal.insert_reserved-key-requires
insert_reserved-key-requires c =
    let long = rows_length c.self.inside.slots c.self.inside.keys.items c.self.invariant in
    let same = ap length c.self.view_is in
    omega arith

pub insert-requires : goal.insert-requires
insert-requires c =
    let long = rows_length c.self.inside.slots c.self.inside.keys.items c.self.invariant in
    let same = ap length c.self.view_is in
    (lit< tt, (omega arith, omega arith))

pub returns : goal.returns
returns c =
    let long = rows_length c.self.inside.slots c.self.inside.keys.items c.self.invariant in
    let same = ap length c.self.view_is in
    let inserted = c.insert_reserved-key.ensures in
    rw (c.insert.ensures.items, ← c.self.view_is)
    (rows_insert c.self.inside.slots c.insert_reserved-key.new.self c.self.inside.keys.items c.args.place c.insert_reserved-key.result c.args.row c.self.invariant inserted.was_vacant inserted.updates (omega arith))
