use Rattle.std.proofs.Common.{List, ap, ◌∙◌}
use Rattle.update_tracker.specs.declared.undo.Note.{Note}
use Rattle.update_tracker.specs.NetRows.{has_item}
use Rattle.update_tracker.proofs.Ended.{newest_goes, none_goes}
use Rattle.update_tracker.proofs.net_log.NetLog.end.Goals as goal

pub returns-in-Some : goal.returns-in-Some
returns-in-Some c =
    rw (← c.self.view_is)
    (ap (λ (notes : List Note). record { blocks = c.self.inside.blocks.items; notes = notes })
    (c.remove.ensures.items ∙ newest_goes (has_item c.args.item) c.self.inside.notes.items c.as_slice.result.now c.in-Some.place c.remove.result c.as_slice.ensures.value c.in-Some.ensures))

pub returns-in_default : goal.returns-in_default
returns-in_default c =
    rw (← c.self.view_is)
    (ap (λ (notes : List Note). record { blocks = c.self.inside.blocks.items; notes = notes })
    (none_goes (has_item c.args.item) c.self.inside.notes.items c.as_slice.result.now c.as_slice.ensures.value c.in_default.ensures))
