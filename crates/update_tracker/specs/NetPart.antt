-- What the log of an owner's live updates says of a history: its net list, grants and releases apart.
use Rattle.std.specs.Prelude.{◌≡◌, ℕ, ◌-◌, Bool, true, false, cond, not, ltb, ◌&&◌, List, [], ◌∷◌, ◌++◌, length, take, drop, reverse, slice_get, Option, Some, None}
use Rattle.std.specs.List.{count_by}
use Rattle.sd_base.specs.declared.history.Update.{Update}
use Rattle.sd_base.specs.declared.history.Update.TheVariants.{Grant, Free, Line, Ports, Device, Param, Timer, Lock, Hold, Work, Mask}
use Rattle.sd_base.specs.Selection.{passes}
use Rattle.sd_base.specs.History.{Entry, is_owner}
use Rattle.sd_base.specs.Blocks.{Block, next_base, granted}
use Rattle.update_tracker.specs.declared.undo.Note.{Note}
use Rattle.update_tracker.specs.declared.undo.Undo.{Undo}
use Rattle.update_tracker.specs.declared.undo.Undo.TheVariants as undo
use Rattle.update_tracker.specs.NetRows.{NetRows, no_rows}

-- in front of the list, where there is one
abbrev pub in_front : {X : Type 0} → Option X → List X → List X
in_front None xs = xs
in_front (Some x) xs = x ∷ xs

-- a grant or a release
abbrev pub is_block_update : Update → Bool
is_block_update (Grant layout n image) = true
is_block_update (Free base) = true
is_block_update _ = false

-- an owner's grant or release
abbrev pub is_block_entry : ℕ → Entry → Bool
is_block_entry owner e = is_block_update e.update && is_owner owner e

-- what a grant or a release put into the tables where the owner had these blocks
abbrev pub block_item : Update → List Block → Option Undo
block_item (Grant layout n image) blocks = Some (undo.Block (next_base blocks))
block_item (Free base) blocks = Some (undo.Free base)
block_item _ blocks = None

-- what another update put there; one that only ends others put nothing
abbrev pub note_item : Update → Option Undo
note_item (Line line handler) = Some (undo.Line line)
note_item (Ports base n) = Some (undo.Ports base n)
note_item (Device id) = Some (undo.Device id)
note_item (Param key value) = Some (undo.Param key)
note_item (Timer id due handler arg) = Some (undo.Timer id)
note_item (Lock lock task) = Some (undo.Lock lock)
note_item (Hold domain) = Some (undo.Hold domain)
note_item (Work handler arg) = Some (undo.Work handler arg)
note_item (Mask task) = Some (undo.Mask task)
note_item _ = None

-- what any update put there
abbrev pub item_of : Update → List Block → Option Undo
item_of (Grant layout n image) blocks = Some (undo.Block (next_base blocks))
item_of (Free base) blocks = Some (undo.Free base)
item_of u blocks = note_item u

-- of an owner's own entries alone
abbrev pub if_own : ℕ → Entry → Option Undo → Option Undo
if_own owner e item = cond (is_owner owner e) item None

-- an owner's net list by what each update put into the tables, from its newest
abbrev pub net_items : ℕ → List Entry → List Undo
net_items owner [] = []
net_items owner (e ∷ live) = in_front (if_own owner e (item_of e.update (granted live owner))) (net_items owner live)

-- the grants and releases of it
abbrev pub block_items : ℕ → List Entry → List Undo
block_items owner [] = []
block_items owner (e ∷ live) = in_front (if_own owner e (block_item e.update (granted live owner))) (block_items owner live)

abbrev pub note_after : Option Undo → ℕ → Option Note
note_after None after = None
note_after (Some item) after = Some (record { item = item; after = after })

-- the rest of it, each with how many grants and releases are older
abbrev pub notes_of : ℕ → List Entry → List Note
notes_of owner [] = []
notes_of owner (e ∷ live) =
    in_front (note_after (if_own owner e (note_item e.update)) (count_by (is_block_entry owner) live)) (notes_of owner live)

-- the log shows an owner's part of what is live
pub record ShowsNet (owner : ℕ) (rows : NetRows) (live : List Entry) : Type 0 where
  pub blocks : rows.blocks ≡ reverse (block_items owner live)
  pub notes : rows.notes ≡ reverse (notes_of owner live)

-- both lists, from their newest, put together by how many grants and releases each note comes after
abbrev pub merged : List Undo → List Note → List Undo
merged blocks [] = blocks
merged blocks (note ∷ notes) =
    take (length blocks - note.after) blocks ++ note.item ∷ merged (drop (length blocks - note.after) blocks) notes

-- what a log says, from its newest
abbrev pub read_back : NetRows → List Undo
read_back rows = merged (reverse rows.blocks) (reverse rows.notes)

-- the newest note comes after at least so many grants and releases, so that it is newer than they are
abbrev pub is_newest_note : List Note → ℕ → Bool
is_newest_note notes blocks = passes (λ (note : Note). not (ltb note.after blocks)) (slice_get notes (length notes - 1))

-- what is read is the item and then what is read afterwards; where there is none, nothing is left
abbrev pub Pops : NetRows → Option Undo → NetRows → Type 0
Pops old None new = (read_back old ≡ []) × (new ≡ no_rows)
Pops old (Some item) new = read_back old ≡ item ∷ read_back new
