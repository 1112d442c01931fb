-- What the log of an owner's live updates contains, and what each update leaves of it.
use Rattle.std.specs.Prelude.{ℕ, Bool, true, false, ◌&&◌, eqb, List, [], ◌∷◌, ◌++◌, length}
use Rattle.std.specs.Ordering.{int_eq}
use Rattle.sd_base.specs.declared.history.Update.{Update}
use Rattle.sd_base.specs.declared.history.Update.TheVariants.{Grant, Free, Line, FreeLine, Ports, DropPorts, Device, DelDevice, Param, ClearParam, Timer, DelTimer, Fired, Lock, Unlock, Hold, DropHold, Work, Taken, Mask, Unmask, Clock}
use Rattle.sd_base.specs.Selection.{without_first, without_last}
use Rattle.update_tracker.specs.declared.undo.Note.{Note}
use Rattle.update_tracker.specs.declared.undo.Reply.{Reply}
use Rattle.update_tracker.specs.declared.undo.Reply.TheVariants.{Done, Base}
use Rattle.update_tracker.specs.declared.undo.Undo.{Undo}
use Rattle.update_tracker.specs.declared.undo.Undo.TheVariants as undo

-- the live grants and releases by themselves, since no update ends them, and all other live updates; each list from its oldest
pub record NetRows : Type 0 where
  pub blocks : List Undo
  pub notes : List Note

abbrev pub no_rows : NetRows
no_rows = record { blocks = []; notes = [] }

abbrev pub same_undo : Undo → Undo → Bool
same_undo (undo.Block a) (undo.Block b) = eqb a b
same_undo (undo.Free a) (undo.Free b) = eqb a b
same_undo (undo.Line a) (undo.Line b) = int_eq a b
same_undo (undo.Ports a n) (undo.Ports b m) = int_eq a b && int_eq n m
same_undo (undo.Device a) (undo.Device b) = int_eq a b
same_undo (undo.Param a) (undo.Param b) = int_eq a b
same_undo (undo.Timer a) (undo.Timer b) = int_eq a b
same_undo (undo.Lock a) (undo.Lock b) = int_eq a b
same_undo (undo.Mask a) (undo.Mask b) = eqb a b
same_undo (undo.Hold a) (undo.Hold b) = int_eq a b
same_undo (undo.Work a n) (undo.Work b m) = eqb a b && int_eq n m
same_undo _ _ = false

-- the note of this item
abbrev pub has_item : Undo → Note → Bool
has_item item note = same_undo note.item item

abbrev pub is_work : Undo → Bool
is_work (undo.Work handler arg) = true
is_work _ = false

-- the note of an item of the work queue
abbrev pub is_work_note : Note → Bool
is_work_note note = is_work note.item

-- a new grant or release
abbrev pub with_block : Undo → NetRows → NetRows
with_block item rows = record rows { blocks = rows.blocks ++ item ∷ [] }

-- a new item, behind all grants and releases that are there
abbrev pub with_note : Undo → NetRows → NetRows
with_note item rows = record rows { notes = rows.notes ++ record { item = item; after = length rows.blocks } ∷ [] }

-- the newest note of this item is ended
abbrev pub without_note : Undo → NetRows → NetRows
without_note item rows = record rows { notes = without_last (has_item item) rows.notes }

-- the oldest item of work is ended
abbrev pub without_oldest_work : NetRows → NetRows
without_oldest_work rows = record rows { notes = without_first is_work_note rows.notes }

-- the base that a reply carries
abbrev pub base_in : Reply → ℕ
base_in Done = 0
base_in (Base base) = base

-- the log after one more update of its owner, to which this was replied
abbrev pub noted : Update → Reply → NetRows → NetRows
noted (Grant layout n image) reply rows = with_block (undo.Block (base_in reply)) rows
noted (Free base) reply rows = with_block (undo.Free base) rows
noted (Line line handler) reply rows = with_note (undo.Line line) rows
noted (FreeLine line) reply rows = without_note (undo.Line line) rows
noted (Ports base n) reply rows = with_note (undo.Ports base n) rows
noted (DropPorts base n) reply rows = without_note (undo.Ports base n) rows
noted (Device id) reply rows = with_note (undo.Device id) rows
noted (DelDevice id) reply rows = without_note (undo.Device id) rows
noted (Param key value) reply rows = with_note (undo.Param key) (without_note (undo.Param key) rows)
noted (ClearParam key) reply rows = without_note (undo.Param key) rows
noted (Timer id due handler arg) reply rows = with_note (undo.Timer id) (without_note (undo.Timer id) rows)
noted (DelTimer id) reply rows = without_note (undo.Timer id) rows
noted (Fired id) reply rows = without_note (undo.Timer id) rows
noted (Lock lock task) reply rows = with_note (undo.Lock lock) rows
noted (Unlock lock task) reply rows = without_note (undo.Lock lock) rows
noted (Hold domain) reply rows = with_note (undo.Hold domain) rows
noted (DropHold domain) reply rows = without_note (undo.Hold domain) rows
noted (Work handler arg) reply rows = with_note (undo.Work handler arg) rows
noted Taken reply rows = without_oldest_work rows
noted (Mask task) reply rows = with_note (undo.Mask task) rows
noted (Unmask task) reply rows = without_note (undo.Mask task) rows
noted (Clock now) reply rows = rows
