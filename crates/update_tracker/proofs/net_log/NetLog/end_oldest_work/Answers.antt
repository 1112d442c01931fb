use Rattle.std.proofs.Common.{List, sym, ap, ◌∙◌}
use Rattle.update_tracker.specs.declared.undo.Note.{Note}
use Rattle.update_tracker.specs.NetRows.{is_work_note}
use Rattle.update_tracker.proofs.Ended.{oldest_goes, no_oldest_goes}
use Rattle.update_tracker.proofs.net_log.NetLog.end_oldest_work.Goals as goal

pub returns-in-Some : goal.returns-in-Some
returns-in-Some c =
    rw (← c.self.view_is)
    (ap (λ (notes : List Note). record { blocks = c.self.inside.blocks.items; notes = notes })
    (c.remove.ensures.items ∙ oldest_goes is_work_note c.self.inside.notes.items c.as_slice.result.now c.in-Some.place c.remove.result c.as_slice.ensures.value (sym c.in-Some.ensures)))

pub returns-in_default : goal.returns-in_default
returns-in_default c =
    rw (← c.self.view_is)
    (ap (λ (notes : List Note). record { blocks = c.self.inside.blocks.items; notes = notes })
    (no_oldest_goes is_work_note c.self.inside.notes.items c.as_slice.result.now c.as_slice.ensures.value (sym c.in_default.ensures)))
