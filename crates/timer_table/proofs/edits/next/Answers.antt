use Rattle.std.proofs.Common.{◌≡◌, ◌+◌, ◌++◌, ◌∷◌, [], sym, ◌∙◌, ap, take}
use Rattle.timer_table.specs.Order.{earlier_if_due, next_of}
use Rattle.timer_table.proofs.Firing.{next_of-append, take-more}
use Rattle.timer_table.proofs.edits.next.Goals as goal

pub loop-place-preserved : goal.loop-place-preserved
loop-place-preserved c =
    let more : take (c.loop-place.place + 1) c.args.rows.now ≡ take c.loop-place.place c.args.rows.now ++ c.in-Some.row ∷ [] =
    take-more c.args.rows.now c.loop-place.place c.in-Some.row (sym c.get.ensures ∙ c.in-Some.is) in
    c.earlier_if_due-next.ensures ∙ ap (earlier_if_due c.args.now c.in-Some.row) c.loop-place.invariant
    ∙ sym (ap (next_of c.args.now) more ∙ next_of-append c.args.now (take c.loop-place.place c.args.rows.now) c.in-Some.row)
