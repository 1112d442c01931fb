use Rattle.std.proofs.Common.{sym, ◌∙◌, arith}
use Rattle.timer_table.proofs.Keyed.{row_at, row_past}
use Rattle.timer_table.proofs.rows.Rows.get.Goals as goal

pub returns-then-place-len : goal.returns-then-place-len
returns-then-place-len c =
    rw (← c.self.view_is) (sym (row_past c.self.inside.slots c.self.inside.keys.items c.args.place c.self.invariant (omega (arith, c.len.ensures.value))))

pub returns : goal.returns
returns c =
    let at = row_at c.self.inside.slots c.self.inside.keys.items c.args.place 0 c.self.invariant (omega (arith, c.len.ensures.value)) in
    rw (← c.self.view_is, at) (rw c.as_slice.ensures.value at (c.copied.ensures ∙ c.get.ensures))
