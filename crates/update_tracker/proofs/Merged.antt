-- A log, read from its newest entry, is the net list of its owner.
use Rattle.std.proofs.Common.{◌≡◌, ℕ, suc, ◌-◌, ◌≤◌, true, false, cond, List, [], ◌∷◌, ◌++◌, length, take, drop, reverse, Some, None, refl, ap, sym, ◌∙◌, subst, arith}
use Rattle.std.proofs.lemmas.List.{reverse-reverse}
use Rattle.std.specs.List.{count_by}
use Rattle.sd_base.specs.declared.history.Update.{Update}
use Rattle.sd_base.specs.declared.history.Update.TheVariants.{Grant, Free, Line, Ports, Device, Param, Timer, Lock, Hold, Work, Mask}
use Rattle.sd_base.specs.History.{Entry, is_owner}
use Rattle.sd_base.specs.Blocks.{Block, granted}
use Rattle.sd_base.proofs.Counting.{count_by-cons}
use Rattle.update_tracker.specs.declared.undo.Note.{Note}
use Rattle.update_tracker.specs.declared.undo.Undo.{Undo}
use Rattle.update_tracker.specs.NetRows.{NetRows}
use Rattle.update_tracker.specs.NetPart.{in_front, is_block_entry, block_item, note_item, item_of, if_own, net_items, block_items, note_after, notes_of, ShowsNet, merged, read_back}
use Rattle.update_tracker.proofs.NetShown.{length-block_items}

-- the newest note comes after so many at most
abbrev pub HeadWithin : List Note → ℕ → Type 0
HeadWithin [] n = Unit {0}
HeadWithin (note ∷ notes) n = note.after ≤ n

head_wider : (notes : List Note) (n m : ℕ) → n ≤ m → HeadWithin notes n → HeadWithin notes m
head_wider [] n m more h = tt
head_wider (note ∷ notes) n m more h = omega arith

head_within : (owner : ℕ) (live : List Entry) → HeadWithin (notes_of owner live) (count_by (is_block_entry owner) live)
head_within owner [] = tt
head_within owner (e ∷ live) =
    let more : count_by (is_block_entry owner) live ≤ count_by (is_block_entry owner) (e ∷ live) = omega (arith, count_by-cons (is_block_entry owner) e live) in
    elim (if_own owner e (note_item e.update)) as (λ o. HeadWithin (in_front (note_after o (count_by (is_block_entry owner) live)) (notes_of owner live)) (count_by (is_block_entry owner) (e ∷ live))) [
      | None ↦ head_wider (notes_of owner live) (count_by (is_block_entry owner) live) (count_by (is_block_entry owner) (e ∷ live)) more (head_within owner live)
      | Some item ↦ more
    ]

-- a newer grant or release is read first
block_first : (b : Undo) (blocks : List Undo) (notes : List Note) → HeadWithin notes (length blocks) → merged (b ∷ blocks) notes ≡ b ∷ merged blocks notes
block_first b blocks [] h = refl
block_first b blocks (note ∷ notes) h =
    let count : length (b ∷ blocks) - note.after ≡ suc (length blocks - note.after) = omega arith in
    ap (λ n. take n (b ∷ blocks) ++ note.item ∷ merged (drop n (b ∷ blocks)) notes) count

-- and so is a note that comes after all of them
note_first : (item : Undo) (after : ℕ) (blocks : List Undo) (notes : List Note) → after ≡ length blocks → merged blocks (record { item = item; after = after } ∷ notes) ≡ item ∷ merged blocks notes
note_first item after blocks notes is =
    let none : length blocks - after ≡ 0 = omega arith in
    ap (λ n. take n blocks ++ item ∷ merged (drop n blocks) notes) none

-- an update has one item or the other
one_kind : (u : Update) (blocks : List Block) (items : List Undo) (notes : List Note) (after : ℕ) → after ≡ length items → HeadWithin notes (length items) →
    merged (in_front (block_item u blocks) items) (in_front (note_after (note_item u) after) notes) ≡ in_front (item_of u blocks) (merged items notes)
one_kind (Grant layout n image) blocks items notes after is h = block_first _ items notes h
one_kind (Free base) blocks items notes after is h = block_first _ items notes h
one_kind (Line line handler) blocks items notes after is h = note_first _ after items notes is
one_kind (Ports base n) blocks items notes after is h = note_first _ after items notes is
one_kind (Device id) blocks items notes after is h = note_first _ after items notes is
one_kind (Param key value) blocks items notes after is h = note_first _ after items notes is
one_kind (Timer id due handler arg) blocks items notes after is h = note_first _ after items notes is
one_kind (Lock lock task) blocks items notes after is h = note_first _ after items notes is
one_kind (Hold domain) blocks items notes after is h = note_first _ after items notes is
one_kind (Work handler arg) blocks items notes after is h = note_first _ after items notes is
one_kind (Mask task) blocks items notes after is h = note_first _ after items notes is
one_kind u blocks items notes after is h = refl

merged_items : (owner : ℕ) (live : List Entry) → merged (block_items owner live) (notes_of owner live) ≡ net_items owner live
merged_items owner [] = refl
merged_items owner (e ∷ live) =
    let count : count_by (is_block_entry owner) live ≡ length (block_items owner live) = sym (length-block_items owner live) in
    let head : HeadWithin (notes_of owner live) (length (block_items owner live)) = subst (HeadWithin (notes_of owner live)) count (head_within owner live) in
    elim (is_owner owner e) as (λ b. merged (in_front (cond b (block_item e.update (granted live owner)) None) (block_items owner live)) (in_front (note_after (cond b (note_item e.update) None) (count_by (is_block_entry owner) live)) (notes_of owner live))
    ≡ in_front (cond b (item_of e.update (granted live owner)) None) (net_items owner live)) [
      | true ↦ one_kind e.update (granted live owner) (block_items owner live) (notes_of owner live) (count_by (is_block_entry owner) live) count head
          ∙ ap (in_front (item_of e.update (granted live owner))) (merged_items owner live)
      | false ↦ merged_items owner live
    ]

-- a log that shows its owner's part reads as the net list
pub reads_back : (owner : ℕ) (rows : NetRows) (live : List Entry) → ShowsNet owner rows live → read_back rows ≡ net_items owner live
reads_back owner rows live shows =
    ap (λ blocks. merged blocks (reverse rows.notes)) (ap reverse shows.blocks ∙ reverse-reverse (block_items owner live))
    ∙ ap (merged (block_items owner live)) (ap reverse shows.notes ∙ reverse-reverse (notes_of owner live))
    ∙ merged_items owner live
