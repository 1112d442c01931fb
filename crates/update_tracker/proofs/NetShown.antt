-- The log of an owner shows its part of what is live, after each update of its own and of others.
use Rattle.std.proofs.Common.{◌≡◌, ℕ, ◌+◌, ◌≤◌, Bool, true, false, cond, ◌&&◌, eqb, List, [], ◌∷◌, ◌++◌, length, reverse, ℤ, Some, None, refl, ap, sym, ◌∙◌, subst, arith}
use Rattle.std.proofs.lemmas.Bool.Decides.{nat_tests}
use Rattle.std.proofs.lemmas.List.{reverse-reverse, length-reverse}
use Rattle.std.specs.List.{list_any, count_by}
use Rattle.sd_base.specs.declared.history.Update.{Update}
use Rattle.sd_base.specs.declared.history.Update.TheVariants.{Grant, Free, Line, FreeLine, Ports, DropPorts, Device, DelDevice, Param, ClearParam, Timer, DelTimer, Fired, Lock, Unlock, Hold, DropHold, Work, Taken, Mask, Unmask, Clock}
use Rattle.sd_base.specs.Selection.{without_first, without_last, passes}
use Rattle.sd_base.specs.History.{Entry, entry, Key, line_key, ports_key, device_key, param_key, timer_key, hold_key, mask_key, work_key, lock_key, is_owner, is_of, Role, Begins, Replaces, Ends, EndsOldest, Passes, key_of, role_of, after_role, after_entry}
use Rattle.sd_base.specs.Blocks.{Block, next_base, granted}
use Rattle.sd_base.specs.Allowed.{is_lock, refusal_on}
use Rattle.sd_base.specs.Sound.{IsSound}
use Rattle.sd_base.proofs.Counting.{reverse-cons, count_by-cons}
use Rattle.sd_base.proofs.Removal.{reverse-without_last}
use Rattle.sd_base.proofs.Live.{is_of-owner}
use Rattle.update_tracker.specs.declared.undo.Reply.{Reply}
use Rattle.update_tracker.specs.declared.undo.Undo.{Undo}
use Rattle.update_tracker.specs.declared.undo.Undo.TheVariants as undo
use Rattle.update_tracker.specs.NetRows.{NetRows, has_item, is_work_note, with_block, with_note, without_note, without_oldest_work, base_in, noted}
use Rattle.update_tracker.specs.NetPart.{in_front, is_block_update, is_block_entry, block_item, note_item, block_items, note_after, notes_of, ShowsNet}
use Rattle.update_tracker.proofs.LogParts.{row, blocks-without_first, blocks-without_last, notes-without_first, notes-without_last, notes-without_first_other, notes-without_last_other}
use Rattle.update_tracker.proofs.OfItems.{is_item, GoWith, own_items, item_no_block, line_item, ports_item, device_item, param_item, timer_item, hold_item, mask_item, work_item, is_own_lock, lock_item}

pub eqb_itself : (n : ℕ) → eqb n n ≡ true
eqb_itself n = grind (arith, nat_tests)

-- how many grants and releases an owner has live

is_some_item : (own : Bool) (u : Update) (blocks : List Block) (items : List Undo) → length (in_front (cond own (block_item u blocks) None) items) ≡ cond (is_block_update u && own) 1 0 + length items
is_some_item true (Grant layout n image) blocks items = omega arith
is_some_item true (Free base) blocks items = omega arith
is_some_item false (Grant layout n image) blocks items = omega arith
is_some_item false (Free base) blocks items = omega arith
is_some_item true _ blocks items = omega arith
is_some_item false _ blocks items = omega arith

pub length-block_items : (owner : ℕ) (live : List Entry) → length (block_items owner live) ≡ count_by (is_block_entry owner) live
length-block_items owner [] = refl
length-block_items owner (e ∷ live) =
    is_some_item (is_owner owner e) e.update (granted live owner) (block_items owner live)
    ∙ ap (λ n. cond (is_block_entry owner e) 1 0 + n) (length-block_items owner live) ∙ sym (count_by-cons (is_block_entry owner) e live)

-- an owner's own newest entry
own_block : (owner : ℕ) (u : Update) (live : List Entry) → block_items owner (entry owner u ∷ live) ≡ in_front (block_item u (granted live owner)) (block_items owner live)
own_block owner u live = ap (λ b. in_front (cond b (block_item u (granted live owner)) None) (block_items owner live)) (eqb_itself owner)

own_note : (owner : ℕ) (u : Update) (live : List Entry) →
    notes_of owner (entry owner u ∷ live) ≡ in_front (note_after (note_item u) (count_by (is_block_entry owner) live)) (notes_of owner live)
own_note owner u live = ap (λ b. in_front (note_after (cond b (note_item u) None) (count_by (is_block_entry owner) live)) (notes_of owner live)) (eqb_itself owner)

-- a grant or a release comes
block_comes : (owner : ℕ) (u : Update) (rows : NetRows) (live : List Entry) (item : Undo) → block_item u (granted live owner) ≡ Some item → note_item u ≡ None → ShowsNet owner rows live →
    ShowsNet owner (with_block item rows) (entry owner u ∷ live)
block_comes owner u rows live item is none shows = record {
  blocks = ap (λ items. items ++ item ∷ []) shows.blocks ∙ sym (reverse-cons item (block_items owner live))
      ∙ ap reverse (sym (own_block owner u live ∙ ap (λ o. in_front o (block_items owner live)) is));
  notes = shows.notes ∙ ap reverse (sym (own_note owner u live ∙ ap (λ o. in_front (note_after o (count_by (is_block_entry owner) live)) (notes_of owner live)) none));
}

-- another update comes
note_comes : (owner : ℕ) (u : Update) (rows : NetRows) (live : List Entry) (item : Undo) → note_item u ≡ Some item → block_item u (granted live owner) ≡ None → ShowsNet owner rows live →
    ShowsNet owner (with_note item rows) (entry owner u ∷ live)
note_comes owner u rows live item is none shows =
    let count : length rows.blocks ≡ count_by (is_block_entry owner) live = ap length shows.blocks ∙ length-reverse (block_items owner live) ∙ length-block_items owner live in record {
      blocks = shows.blocks ∙ ap reverse (sym (own_block owner u live ∙ ap (λ o. in_front o (block_items owner live)) none));
      notes = ap (λ n. rows.notes ++ record { item = item; after = n } ∷ []) count
          ∙ ap (λ notes. notes ++ record { item = item; after = count_by (is_block_entry owner) live } ∷ []) shows.notes
          ∙ sym (reverse-cons (record { item = item; after = count_by (is_block_entry owner) live }) (notes_of owner live))
          ∙ ap reverse (sym (own_note owner u live ∙ ap (λ o. in_front (note_after o (count_by (is_block_entry owner) live)) (notes_of owner live)) is));
    }

reverse-without_first : {X : Type 0} (p : X → Bool) (xs : List X) → reverse (without_first p xs) ≡ without_last p (reverse xs)
reverse-without_first p xs =
    let back : reverse (without_last p (reverse xs)) ≡ without_first p xs = reverse-without_last p (reverse xs) ∙ ap (without_first p) (reverse-reverse xs) in
    sym (ap reverse back) ∙ reverse-reverse (without_last p (reverse xs))

-- the newest of an item goes
note_goes : (owner : ℕ) (p : Entry → Bool) (rows : NetRows) (live : List Entry) (item : Undo) → ((e : Entry) → p e ≡ passes (is_item item) (row owner e)) → ShowsNet owner rows live →
    ShowsNet owner (without_note item rows) (without_first p live)
note_goes owner p rows live item same shows =
    let none = item_no_block owner p (is_item item) same in record {
      blocks = shows.blocks ∙ ap reverse (sym (blocks-without_first owner p none live).1);
      notes = ap (without_last (has_item item)) shows.notes ∙ sym (reverse-without_first (has_item item) (notes_of owner live))
          ∙ ap reverse (sym (notes-without_first owner p (is_item item) none same live));
    }

-- the oldest item of work goes
work_goes : (owner : ℕ) (rows : NetRows) (live : List Entry) → ShowsNet owner rows live → ShowsNet owner (without_oldest_work rows) (without_last (is_of owner work_key) live)
work_goes owner rows live shows =
    let same = own_items owner work_key _ work_item in
    let none = item_no_block owner (is_of owner work_key) _ same in record {
      blocks = shows.blocks ∙ ap reverse (sym (blocks-without_last owner (is_of owner work_key) none live).1);
      notes = ap (without_first is_work_note) shows.notes ∙ sym (reverse-without_last is_work_note (notes_of owner live))
          ∙ ap reverse (sym (notes-without_last owner (is_of owner work_key) _ none same live));
    }

-- the newest under a key goes
key_goes : (owner : ℕ) (key : Key) (rows : NetRows) (live : List Entry) (item : Undo) → GoWith key (is_item item) → ShowsNet owner rows live →
    ShowsNet owner (without_note item rows) (without_first (is_of owner key) live)
key_goes owner key rows live item same shows = note_goes owner (is_of owner key) rows live item (own_items owner key (is_item item) same) shows

-- Where a lock has one holder, what its activity lets go of is what its owner lets go of.

none_narrower : {X : Type 0} (p q : X → Bool) → ((x : X) → p x ≡ true → q x ≡ true) → (xs : List X) → count_by q xs ≡ 0 → list_any p xs ≡ false
none_narrower p q within [] few = refl
none_narrower p q within (x ∷ xs) few = grind (arith, within x, count_by-cons q x xs, none_narrower p q within xs)

only_one : {X : Type 0} (p q r : X → Bool) → ((x : X) → p x ≡ true → q x ≡ true) → ((x : X) → q x ≡ true → r x ≡ true) → (xs : List X) → list_any p xs ≡ true → count_by r xs ≤ 1 →
    without_first p xs ≡ without_first q xs
only_one p q r narrow narrower [] some few = refl
only_one p q r narrow narrower (x ∷ xs) some few =
    let counts = count_by-cons r x xs in
    elim (p x) as (λ b. p x ≡ b → without_first p (x ∷ xs) ≡ without_first q (x ∷ xs)) [
      | true ↦ λ is. grind (arith, narrow x)
      | false ↦ λ is.
          let later : list_any p xs ≡ true = grind arith in
          elim (q x) as (λ b. q x ≡ b → without_first p (x ∷ xs) ≡ without_first q (x ∷ xs)) [
            | true ↦ λ here.
                let there : r x ≡ true = narrower x here in
                let rest : count_by r xs ≡ 0 = grind arith in
                let never : list_any p xs ≡ false = none_narrower p r (λ y k. narrower y (narrow y k)) xs rest in
                cc (sym later ∙ never)
            | false ↦ λ here.
                let rest : count_by r xs ≤ 1 = grind arith in
                grind (arith, only_one p q r narrow narrower xs later rest)
          ] refl
    ] refl

own_lock : (owner task : ℕ) (lock : ℤ) (e : Entry) → is_of owner (lock_key lock task) e ≡ true → is_own_lock owner lock e ≡ true
own_lock owner task lock e h = grind arith

any_lock : (owner : ℕ) (lock : ℤ) (e : Entry) → is_own_lock owner lock e ≡ true → is_lock lock e ≡ true
any_lock owner lock e h = grind arith

lock_goes : (owner : ℕ) (lock : ℤ) (task : ℕ) (rows : NetRows) (live : List Entry) → list_any (is_of owner (lock_key lock task)) live ≡ true → count_by (is_lock lock) live ≤ 1 → ShowsNet owner rows live →
    ShowsNet owner (without_note (undo.Lock lock) rows) (without_first (is_of owner (lock_key lock task)) live)
lock_goes owner lock task rows live held one shows =
    subst (ShowsNet owner (without_note (undo.Lock lock) rows))
    (sym (only_one (is_of owner (lock_key lock task)) (is_own_lock owner lock) (is_lock lock) (own_lock owner task lock) (any_lock owner lock) live held one))
    (note_goes owner (is_own_lock owner lock) rows live (undo.Lock lock) (lock_item owner lock) shows)

let_go : (share : ℕ) (live : List Entry) (clock owner task : ℕ) (lock : ℤ) → refusal_on share live clock owner (Unlock lock task) ≡ None → list_any (is_of owner (lock_key lock task)) live ≡ true
let_go share live clock owner task lock h = grind arith

-- what a grant is answered
abbrev pub RepliesWell : Update → Reply → ℕ → Type 0
RepliesWell (Grant layout n image) reply base = base_in reply ≡ base
RepliesWell _ reply base = Unit {0}

-- the log after one more update of its owner shows its part
pub own_shows : (share : ℕ) (owner : ℕ) (u : Update) (reply : Reply) (rows : NetRows) (live : List Entry) (clock : ℕ) → IsSound live → refusal_on share live clock owner u ≡ None → RepliesWell u reply (next_base (granted live owner)) →
    ShowsNet owner rows live → ShowsNet owner (noted u reply rows) (after_entry (entry owner u) live)
own_shows share owner (Grant layout n image) reply rows live clock sound ok well shows = block_comes owner (Grant layout n image) rows live (undo.Block (base_in reply)) (ap (λ b. Some (undo.Block b)) (sym well)) refl shows
own_shows share owner (Free base) reply rows live clock sound ok well shows = block_comes owner (Free base) rows live (undo.Free base) refl refl shows
own_shows share owner (Line line handler) reply rows live clock sound ok well shows = note_comes owner (Line line handler) rows live (undo.Line line) refl refl shows
own_shows share owner (FreeLine line) reply rows live clock sound ok well shows = key_goes owner (line_key line) rows live (undo.Line line) (line_item line) shows
own_shows share owner (Ports base n) reply rows live clock sound ok well shows = note_comes owner (Ports base n) rows live (undo.Ports base n) refl refl shows
own_shows share owner (DropPorts base n) reply rows live clock sound ok well shows = key_goes owner (ports_key base n) rows live (undo.Ports base n) (ports_item base n) shows
own_shows share owner (Device id) reply rows live clock sound ok well shows = note_comes owner (Device id) rows live (undo.Device id) refl refl shows
own_shows share owner (DelDevice id) reply rows live clock sound ok well shows = key_goes owner (device_key id) rows live (undo.Device id) (device_item id) shows
own_shows share owner (Param key value) reply rows live clock sound ok well shows =
    note_comes owner (Param key value) (without_note (undo.Param key) rows) (without_first (is_of owner (param_key key)) live) (undo.Param key) refl refl
    (key_goes owner (param_key key) rows live (undo.Param key) (param_item key) shows)
own_shows share owner (ClearParam key) reply rows live clock sound ok well shows = key_goes owner (param_key key) rows live (undo.Param key) (param_item key) shows
own_shows share owner (Timer id due handler arg) reply rows live clock sound ok well shows =
    note_comes owner (Timer id due handler arg) (without_note (undo.Timer id) rows) (without_first (is_of owner (timer_key id)) live) (undo.Timer id) refl refl
    (key_goes owner (timer_key id) rows live (undo.Timer id) (timer_item id) shows)
own_shows share owner (DelTimer id) reply rows live clock sound ok well shows = key_goes owner (timer_key id) rows live (undo.Timer id) (timer_item id) shows
own_shows share owner (Fired id) reply rows live clock sound ok well shows = key_goes owner (timer_key id) rows live (undo.Timer id) (timer_item id) shows
own_shows share owner (Lock lock task) reply rows live clock sound ok well shows = note_comes owner (Lock lock task) rows live (undo.Lock lock) refl refl shows
own_shows share owner (Unlock lock task) reply rows live clock sound ok well shows =
    lock_goes owner lock task rows live (let_go share live clock owner task lock ok) (sound.locks lock) shows
own_shows share owner (Hold domain) reply rows live clock sound ok well shows = note_comes owner (Hold domain) rows live (undo.Hold domain) refl refl shows
own_shows share owner (DropHold domain) reply rows live clock sound ok well shows = key_goes owner (hold_key domain) rows live (undo.Hold domain) (hold_item domain) shows
own_shows share owner (Work handler arg) reply rows live clock sound ok well shows = note_comes owner (Work handler arg) rows live (undo.Work handler arg) refl refl shows
own_shows share owner Taken reply rows live clock sound ok well shows = work_goes owner rows live shows
own_shows share owner (Mask task) reply rows live clock sound ok well shows = note_comes owner (Mask task) rows live (undo.Mask task) refl refl shows
own_shows share owner (Unmask task) reply rows live clock sound ok well shows = key_goes owner (mask_key task) rows live (undo.Mask task) (mask_item task) shows
own_shows share owner (Clock now) reply rows live clock sound ok well shows = shows

-- Another owner's update.

others_entry : (owner : ℕ) (rows : NetRows) (e : Entry) (live : List Entry) → is_owner owner e ≡ false → ShowsNet owner rows live → ShowsNet owner rows (e ∷ live)
others_entry owner rows e live apart shows = record {
  blocks = shows.blocks ∙ ap reverse (sym (ap (λ b. in_front (cond b (block_item e.update (granted live owner)) None) (block_items owner live)) apart));
  notes = shows.notes ∙ ap reverse (sym (ap (λ b. in_front (note_after (cond b (note_item e.update) None) (count_by (is_block_entry owner) live)) (notes_of owner live)) apart));
}

not_own : (owner : ℕ) (e x : Entry) (key : Key) → is_owner owner e ≡ false → is_of e.owner key x ≡ true → is_owner owner x ≡ false
not_own owner e x key apart h = ap (λ n. eqb n owner) (is_of-owner e.owner key x h) ∙ apart

no_block_of : (owner : ℕ) (x : Entry) → is_owner owner x ≡ false → is_block_entry owner x ≡ false
no_block_of owner x h = grind arith

no_row_of : (owner : ℕ) (x : Entry) → is_owner owner x ≡ false → row owner x ≡ None
no_row_of owner x h = ap (λ b. cond b (note_item x.update) None) h

others_goes : (owner : ℕ) (rows : NetRows) (e : Entry) (live : List Entry) → is_owner owner e ≡ false → ShowsNet owner rows live → ShowsNet owner rows (without_first (is_of e.owner (key_of e.update)) live)
others_goes owner rows e live apart shows =
    let p = is_of e.owner (key_of e.update) in
    let none : (x : Entry) → p x ≡ true → is_block_entry owner x ≡ false = λ x h. no_block_of owner x (not_own owner e x (key_of e.update) apart h) in
    let no_row : (x : Entry) → p x ≡ true → row owner x ≡ None = λ x h. no_row_of owner x (not_own owner e x (key_of e.update) apart h) in record {
      blocks = shows.blocks ∙ ap reverse (sym (blocks-without_first owner p none live).1);
      notes = shows.notes ∙ ap reverse (sym (notes-without_first_other owner p none no_row live));
    }

others_oldest_goes : (owner : ℕ) (rows : NetRows) (e : Entry) (live : List Entry) → is_owner owner e ≡ false → ShowsNet owner rows live → ShowsNet owner rows (without_last (is_of e.owner (key_of e.update)) live)
others_oldest_goes owner rows e live apart shows =
    let p = is_of e.owner (key_of e.update) in
    let none : (x : Entry) → p x ≡ true → is_block_entry owner x ≡ false = λ x h. no_block_of owner x (not_own owner e x (key_of e.update) apart h) in
    let no_row : (x : Entry) → p x ≡ true → row owner x ≡ None = λ x h. no_row_of owner x (not_own owner e x (key_of e.update) apart h) in record {
      blocks = shows.blocks ∙ ap reverse (sym (blocks-without_last owner p none live).1);
      notes = shows.notes ∙ ap reverse (sym (notes-without_last_other owner p none no_row live));
    }

others_role : (r : Role) (owner : ℕ) (rows : NetRows) (e : Entry) (live : List Entry) → is_owner owner e ≡ false → ShowsNet owner rows live → ShowsNet owner rows (after_role r e live)
others_role Begins owner rows e live apart shows = others_entry owner rows e live apart shows
others_role Replaces owner rows e live apart shows =
    others_entry owner rows e (without_first (is_of e.owner (key_of e.update)) live) apart (others_goes owner rows e live apart shows)
others_role Ends owner rows e live apart shows = others_goes owner rows e live apart shows
others_role EndsOldest owner rows e live apart shows = others_oldest_goes owner rows e live apart shows
others_role Passes owner rows e live apart shows = shows

-- the log after an update of another owner shows its part as it is
pub others_shows : (owner : ℕ) (rows : NetRows) (e : Entry) (live : List Entry) → is_owner owner e ≡ false → ShowsNet owner rows live → ShowsNet owner rows (after_entry e live)
others_shows owner rows e live apart shows = others_role (role_of e.update) owner rows e live apart shows
