-- Entries under a key are those whose notes have one item.
use Rattle.std.proofs.Common.{◌≡◌, ℕ, Bool, true, false, cond, ◌&&◌, ℤ, Option, None, refl, ap, sym, ◌∙◌, arith}
use Rattle.sd_base.specs.declared.history.Update.{Update}
use Rattle.sd_base.specs.declared.history.Update.TheVariants.{Line, Ports, Device, Param, Timer, Lock, Hold, Work, Mask}
use Rattle.sd_base.specs.Selection.{passes}
use Rattle.sd_base.specs.History.{Entry, entry, Key, same_key, live_key, line_key, ports_key, device_key, param_key, timer_key, hold_key, mask_key, work_key, is_owner, is_of}
use Rattle.sd_base.specs.Allowed.{is_lock}
use Rattle.update_tracker.specs.declared.undo.Undo.{Undo}
use Rattle.update_tracker.specs.declared.undo.Undo.TheVariants as undo
use Rattle.update_tracker.specs.NetRows.{same_undo, is_work}
use Rattle.update_tracker.specs.NetPart.{is_block_update, is_block_entry, note_item}
use Rattle.update_tracker.proofs.LogParts.{row}

-- the item is this one
abbrev pub is_item : Undo → Undo → Bool
is_item item other = same_undo other item

line_is : (line : ℤ) (u : Update) → same_key (live_key u) (line_key line) ≡ passes (is_item (undo.Line line)) (note_item u)
line_is line (Line l handler) = grind arith
line_is line _ = refl

ports_is : (base n : ℤ) (u : Update) → same_key (live_key u) (ports_key base n) ≡ passes (is_item (undo.Ports base n)) (note_item u)
ports_is base n (Ports b m) = grind arith
ports_is base n _ = refl

device_is : (id : ℤ) (u : Update) → same_key (live_key u) (device_key id) ≡ passes (is_item (undo.Device id)) (note_item u)
device_is id (Device i) = grind arith
device_is id _ = refl

param_is : (key : ℤ) (u : Update) → same_key (live_key u) (param_key key) ≡ passes (is_item (undo.Param key)) (note_item u)
param_is key (Param k value) = grind arith
param_is key _ = refl

timer_is : (id : ℤ) (u : Update) → same_key (live_key u) (timer_key id) ≡ passes (is_item (undo.Timer id)) (note_item u)
timer_is id (Timer i due handler arg) = grind arith
timer_is id _ = refl

hold_is : (domain : ℤ) (u : Update) → same_key (live_key u) (hold_key domain) ≡ passes (is_item (undo.Hold domain)) (note_item u)
hold_is domain (Hold d) = grind arith
hold_is domain _ = refl

mask_is : (task : ℕ) (u : Update) → same_key (live_key u) (mask_key task) ≡ passes (is_item (undo.Mask task)) (note_item u)
mask_is task (Mask t) = grind arith
mask_is task _ = refl

work_is : (u : Update) → same_key (live_key u) work_key ≡ passes is_work (note_item u)
work_is (Work handler arg) = refl
work_is _ = refl

lock_is_of : (lock : ℤ) (by : ℕ) (u : Update) → is_lock lock (entry by u) ≡ passes (is_item (undo.Lock lock)) (note_item u)
lock_is_of lock by (Lock l task) = grind arith
lock_is_of lock by _ = refl

-- a test of an owner's own
own_passes : (q : Undo → Bool) (own : Bool) (o : Option Undo) → passes q (cond own o None) ≡ (passes q o && own)
own_passes q true o = grind arith
own_passes q false o = grind arith

-- entries of an owner under a key have the item of the key, where the key and the item go together
abbrev pub GoWith : Key → (Undo → Bool) → Type 0
GoWith key q = (u : Update) → same_key (live_key u) key ≡ passes q (note_item u)

pub own_items : (owner : ℕ) (key : Key) (q : Undo → Bool) → GoWith key q → (e : Entry) → is_of owner key e ≡ passes q (row owner e)
own_items owner key q same e = ap (λ b. b && is_owner owner e) (same e.update) ∙ sym (own_passes q (is_owner owner e) (note_item e.update))

pub line_item : (line : ℤ) → GoWith (line_key line) (is_item (undo.Line line))
line_item line u = line_is line u

pub ports_item : (base n : ℤ) → GoWith (ports_key base n) (is_item (undo.Ports base n))
ports_item base n u = ports_is base n u

pub device_item : (id : ℤ) → GoWith (device_key id) (is_item (undo.Device id))
device_item id u = device_is id u

pub param_item : (key : ℤ) → GoWith (param_key key) (is_item (undo.Param key))
param_item key u = param_is key u

pub timer_item : (id : ℤ) → GoWith (timer_key id) (is_item (undo.Timer id))
timer_item id u = timer_is id u

pub hold_item : (domain : ℤ) → GoWith (hold_key domain) (is_item (undo.Hold domain))
hold_item domain u = hold_is domain u

pub mask_item : (task : ℕ) → GoWith (mask_key task) (is_item (undo.Mask task))
mask_item task u = mask_is task u

pub work_item : GoWith work_key is_work
work_item u = work_is u

-- an owner's entry by which any of its activities holds a lock
abbrev pub is_own_lock : ℕ → ℤ → Entry → Bool
is_own_lock owner lock e = is_lock lock e && is_owner owner e

pub lock_item : (owner : ℕ) (lock : ℤ) (e : Entry) → is_own_lock owner lock e ≡ passes (is_item (undo.Lock lock)) (row owner e)
lock_item owner lock e = ap (λ b. b && is_owner owner e) (lock_is_of lock e.owner e.update) ∙ sym (own_passes (is_item (undo.Lock lock)) (is_owner owner e) (note_item e.update))

-- an update with a note is neither a grant nor a release
noted_no_block : (q : Undo → Bool) (u : Update) → passes q (note_item u) ≡ true → is_block_update u ≡ false
noted_no_block q (Line line handler) h = refl
noted_no_block q (Ports base n) h = refl
noted_no_block q (Device id) h = refl
noted_no_block q (Param key value) h = refl
noted_no_block q (Timer id due handler arg) h = refl
noted_no_block q (Lock lock task) h = refl
noted_no_block q (Hold domain) h = refl
noted_no_block q (Work handler arg) h = refl
noted_no_block q (Mask task) h = refl
noted_no_block q u h = cc

pub item_no_block : (owner : ℕ) (p : Entry → Bool) (q : Undo → Bool) → ((e : Entry) → p e ≡ passes q (row owner e)) → (e : Entry) → p e ≡ true → is_block_entry owner e ≡ false
item_no_block owner p q same e h =
    let both : (passes q (note_item e.update) && is_owner owner e) ≡ true = sym (own_passes q (is_owner owner e) (note_item e.update)) ∙ sym (same e) ∙ h in
    let some : passes q (note_item e.update) ≡ true = grind arith in
    ap (λ b. b && is_owner owner e) (noted_no_block q e.update some)
