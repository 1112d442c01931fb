use Rattle.std.proofs.Common.{sym, ap, length, arith, lit<}
use Rattle.timer_table.proofs.Keyed.{rows_length, rows_remove}
use Rattle.timer_table.proofs.rows.Rows.remove.Goals as goal

pub remove-key-requires : goal.remove-key-requires
remove-key-requires c =
    let long = rows_length c.self.inside.slots c.self.inside.keys.items c.self.invariant in
    let same = ap length c.self.view_is in
    (lit< tt, omega arith)

pub returns : goal.returns
returns c =
    let long = rows_length c.self.inside.slots c.self.inside.keys.items c.self.invariant in
    let same = ap length c.self.view_is in
    rw (c.remove-key.ensures.items, ← c.self.view_is)
    (rows_remove c.self.inside.slots c.try_remove.new.self c.self.inside.keys.items c.args.place c.remove-key.result c.self.invariant (omega arith) (sym c.remove-key.ensures.value) c.try_remove.ensures.updates)
