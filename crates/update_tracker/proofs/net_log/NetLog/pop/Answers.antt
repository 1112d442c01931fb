-- What was noted last is the last note, or the last grant or release.
use Rattle.std.proofs.Common.{◌≡◌, [], ◌∷◌, ◌++◌, length, Some, subst, true, false, rules}
use Rattle.std.specs.Prelude.{vec_len}
use Rattle.update_tracker.specs.NetRows.{NetRows}
use Rattle.update_tracker.specs.NetPart.{is_newest_note, Pops}
use Rattle.update_tracker.proofs.Reading.{note_popped, blocks_popped, empty_of}
use Rattle.update_tracker.proofs.net_log.NetLog.pop.Goals as goal

pub returns-then-is_newest_note : goal.returns-then-is_newest_note
returns-then-is_newest_note c =
    let newest : is_newest_note c.self.inside.notes.items (length c.self.inside.blocks.items) ≡ true = search rules in
    let is : c.self.inside.notes.items ≡ c.pop.new.self.items ++ c.in-Some.note ∷ [] = search rules in
    subst (λ (r : NetRows). Pops r (Some c.in-Some.note.item) (record { blocks = c.self.inside.blocks.items; notes = c.pop.new.self.items })) c.self.view_is
    (note_popped c.self.inside.blocks.items c.self.inside.notes.items c.pop.new.self.items c.in-Some.note is newest)

pub returns : goal.returns
returns c =
    let newest : is_newest_note c.self.inside.notes.items (length c.self.inside.blocks.items) ≡ false = search rules in
    subst (λ (r : NetRows). Pops r c.pop-2.result (record { blocks = c.pop-2.new.self.items; notes = c.self.inside.notes.items })) c.self.view_is
    (blocks_popped c.self.inside.blocks.items c.pop-2.new.self.items c.self.inside.notes.items c.pop-2.result c.pop-2.ensures.items (λ is. empty_of c.self.inside.blocks.items (vec_len c.self.inside.blocks) _ _ c.pop-2.result c.self.inside.blocks.ok.0 c.pop-2.ensures.cases is) newest)
