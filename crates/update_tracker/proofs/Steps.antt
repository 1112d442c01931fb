-- One step of undoing, and all of them.
use Rattle.std.proofs.Common.{◌≡◌, ℕ, ◌≤◌, Bool, true, false, not, eqb, List, [], ◌∷◌, Option, Some, None, refl, ap, sym, ◌∙◌, subst, arith}
use Rattle.std.proofs.lemmas.Bool.Decides.{nat_tests}
use Rattle.std.specs.List.{filter, list_any}
use Rattle.sd_base.specs.declared.actors.Who.{Who}
use Rattle.sd_base.specs.declared.history.Update.{Update}
use Rattle.sd_base.specs.declared.history.Update.TheVariants.{Grant, Free, Line, Ports, Device, Param, Timer, Lock, Hold, Work, Mask}
use Rattle.sd_base.specs.Selection.{without_first, passes}
use Rattle.sd_base.specs.History.{Entry, live_key, is_owner, is_of, Without}
use Rattle.sd_base.specs.Blocks.{Block, granted, blocks_after}
use Rattle.sd_base.specs.Allowed.{is_proper}
use Rattle.sd_base.specs.Sound.{BlockAllowed, IsSound}
use Rattle.sd_base.proofs.Removal.{list_any-without_first}
use Rattle.sd_base.proofs.SoundLive.{sound-without_newest}
use Rattle.sd_base.proofs.Newest.{IsNewest, newest, all_others}
use Rattle.share_table.specs.Locks.{lock_at}
use Rattle.kernel_tables.specs.declared.kernel.Kernel.{Kernel}
use Rattle.kernel_tables.specs.Standing.{HoldsTables}
use Rattle.update_tracker.specs.declared.undo.Undo.{Undo}
use Rattle.update_tracker.specs.NetPart.{in_front, item_of, net_items}
use Rattle.update_tracker.proofs.Caps.{improper, is_gone}
use Rattle.update_tracker.specs.Undoing.{undo_key, CanUndo, Undoes, IsLive}
use Rattle.update_tracker.proofs.ItemsOfEntries.{has_item}
use Rattle.update_tracker.proofs.Taking.{older, IsSeen, seen}
use Rattle.update_tracker.proofs.Able.{line_held, ports_held, device_held, param_held, timer_held, lock_held, mask_held, domain_held, work_held, block_last, block_freed}

-- of the item of an update, if it has one
abbrev pub OnItem : (Undo → Type 0) → Option Undo → Type 0
OnItem P None = Unit {0}
OnItem P (Some item) = P item

pub on_item : (P : Undo → Type 0) (o : Option Undo) (item : Undo) → o ≡ Some item → OnItem P o → P item
on_item P o item is h = subst (OnItem P) is h

key_of_item : (u : Update) (blocks : List Block) → OnItem (λ item. live_key u ≡ undo_key (live_key u).task item) (item_of u blocks)
key_of_item (Grant layout n image) blocks = refl
key_of_item (Free base) blocks = refl
key_of_item (Line line handler) blocks = refl
key_of_item (Ports base n) blocks = refl
key_of_item (Device id) blocks = refl
key_of_item (Param key value) blocks = refl
key_of_item (Timer id due handler arg) blocks = refl
key_of_item (Lock lock task) blocks = refl
key_of_item (Hold domain) blocks = refl
key_of_item (Work handler arg) blocks = refl
key_of_item (Mask task) blocks = refl
key_of_item u blocks = tt

mask_task : (owner task : ℕ) → is_proper owner (Mask task) ≡ true → task ≤ 8
mask_task owner task h = grind (arith, nat_tests)

own_lock : (owner task : ℕ) (o : Option Who) → o ≡ Some (record { owner = owner; task = task }) → passes (λ who. eqb who.owner owner) o ≡ true
own_lock owner task o is = (let mine : eqb owner owner ≡ true = grind (arith, nat_tests) in ap (passes (λ who. eqb who.owner owner)) is ∙ mine)

can_of : (k : Kernel) (live later : List Entry) (owner : ℕ) (u : Update) → owner ≤ 4 → IsSound live → HoldsTables k live → is_proper owner u ≡ true → list_any (is_of owner (live_key u)) live ≡ true →
    granted live owner ≡ blocks_after u (granted later owner) → BlockAllowed owner u later → OnItem (CanUndo k owner) (item_of u (granted later owner))
can_of k live later owner (Grant layout n image) few s h proper there is allowed = block_last k.grants live owner _ (granted later owner) few h.grants is
can_of k live later owner (Free base) few s h proper there is allowed = block_freed k.grants live owner base (granted later owner) few s h.grants is allowed
can_of k live later owner (Line line handler) few s h proper there is allowed = line_held k.claims live owner line s h.claims there
can_of k live later owner (Ports base n) few s h proper there is allowed = ports_held k.claims live owner base n s h.claims there
can_of k live later owner (Device id) few s h proper there is allowed = device_held k.claims live owner id s h.claims there
can_of k live later owner (Param key value) few s h proper there is allowed = param_held k.claims live owner key s h.claims there
can_of k live later owner (Timer id due handler arg) few s h proper there is allowed = timer_held k.timers live owner id h.timers there
can_of k live later owner (Lock lock task) few s h proper there is allowed = own_lock owner task (lock_at k.shares.locks lock) (lock_held k.shares.locks live owner task lock s h.shares.locks there)
can_of k live later owner (Hold domain) few s h proper there is allowed = domain_held k.shares.holds live owner domain h.shares.holds there
can_of k live later owner (Work handler arg) few s h proper there is allowed = work_held k.shares.work live owner h.shares.work there
can_of k live later owner (Mask task) few s h proper there is allowed = (mask_task owner task proper, mask_held k.shares.masks live owner task h.shares.masks there)
can_of k live later owner u few s h proper there is allowed = tt

-- what is said of none is not said of the first that is kept
none_of : (q p : Entry → Bool) (live : List Entry) (e : Entry) (rest : List Entry) → list_any q live ≡ false → filter p live ≡ e ∷ rest → q e ≡ false
none_of q p [] e rest none is = cc
none_of q p (x ∷ live) e rest none is =
    elim (p x) as (λ b. p x ≡ b → q e ≡ false) [
      | true ↦ λ own. (let same : x ≡ e = grind arith in let here : q x ≡ false = grind arith in ap q (sym same) ∙ here)
      | false ↦ λ other. none_of q p live e rest (grind arith) (grind arith)
    ] refl

-- The newest item of an owner, and the entry that it is of.
pub record NextItem (owner : ℕ) (live : List Entry) (item : Undo) (items : List Undo) : Type 0 where
  pub e : Entry
  pub rest : List Entry
  pub newest_is : IsNewest owner live e rest
  pub seen_is : IsSeen owner live e
  pub item_is : item_of e.update (granted (older owner live) owner) ≡ Some item
  pub items_are : items ≡ net_items owner (older owner live)
  pub key_is : live_key e.update ≡ undo_key (live_key e.update).task item
  pub is_of_owner : is_proper owner e.update ≡ true

no_items : (owner : ℕ) (live : List Entry) → filter (is_owner owner) live ≡ [] → net_items owner live ≡ []
no_items owner [] h = refl
no_items owner (e ∷ live) h =
    elim (is_owner owner e) as (λ b. is_owner owner e ≡ b → net_items owner (e ∷ live) ≡ []) [
      | true ↦ λ own. cc (first_stays owner e live own)
      | false ↦ λ other. grind (arith, no_items owner live)
    ] refl
  where
    first_stays : (owner : ℕ) (e : Entry) (live : List Entry) → is_owner owner e ≡ true → filter (is_owner owner) (e ∷ live) ≡ e ∷ filter (is_owner owner) live
    first_stays owner e live own = grind arith

two_heads : (a b : Undo) (xs ys : List Undo) → a ∷ xs ≡ b ∷ ys → (a ≡ b) × (xs ≡ ys)
two_heads a b xs ys h = (cc, cc)

next_of : (k : Kernel) (owner : ℕ) (live own : List Entry) (item : Undo) (items : List Undo) → IsLive k owner (item ∷ items) live → filter (is_owner owner) live ≡ own → NextItem owner live item items
next_of k owner live [] item items l is = (let empty : item ∷ items ≡ [] = l.shown ∙ no_items owner live is in cc)
next_of k owner live (e ∷ rest) item items l is =
    let s = seen owner live e rest l.sound.blocks l.still is in
    let has = has_item e.owner e.update (granted (older owner live) owner) s.live_still in
    let same = two_heads item has.item items (net_items owner (older owner live)) (l.shown ∙ s.items ∙ ap (λ o. in_front o (net_items owner (older owner live))) has.is) in
    let its : item_of e.update (granted (older owner live) owner) ≡ Some item = has.is ∙ ap (λ (i : Undo). Some i) (sym same.0) in
    let mine : e.owner ≡ owner = (let own = s.its_own in grind (arith, nat_tests)) in
    let proper : is_proper e.owner e.update ≡ true = (let none : not (is_proper e.owner e.update) ≡ false = none_of improper (is_owner owner) live e rest l.proper is in grind arith) in
    record {
      e = e;
      rest = rest;
      newest_is = newest owner live e rest is;
      seen_is = s;
      item_is = its;
      items_are = same.1;
      key_is = on_item (λ i. live_key e.update ≡ undo_key (live_key e.update).task i) (item_of e.update (granted (older owner live) owner)) item its (key_of_item e.update (granted (older owner live) owner));
      is_of_owner = subst (λ n. is_proper n e.update ≡ true) mine proper;
    }

-- what is live of an owner can be removed
pub can_undo : (k : Kernel) (owner : ℕ) (item : Undo) (items : List Undo) (live : List Entry) → owner ≤ 4 → IsLive k owner (item ∷ items) live → CanUndo k owner item
can_undo k owner item items live few l =
    let next = next_of k owner live (filter (is_owner owner) live) item items l refl in
    on_item (CanUndo k owner) (item_of next.e.update (granted (older owner live) owner)) item next.item_is
    (can_of k live (older owner live) owner next.e.update few l.sound l.holds next.is_of_owner next.newest_is.there next.seen_is.blocks next.seen_is.allowed)

-- and then the tables hold the parts of the rest
pub undone_is : (old new : Kernel) (owner : ℕ) (item : Undo) (items : List Undo) (live : List Entry) → IsLive old owner (item ∷ items) live → Undoes old owner item new → IsLive new owner items (older owner live)
undone_is old new owner item items live l undoes =
    let next = next_of old owner live (filter (is_owner owner) live) item items l refl in
    let task = (live_key next.e.update).task in
    let there : list_any (is_of owner (undo_key task item)) live ≡ true = ap (λ key. list_any (is_of owner key) live) (sym next.key_is) ∙ next.newest_is.there in
    let goes : without_first (is_of owner (undo_key task item)) live ≡ older owner live = ap (λ key. without_first (is_of owner key) live) (sym next.key_is) ∙ next.newest_is.goes in
    record {
      sound = sound-without_newest owner live l.sound;
      proper = list_any-without_first (is_owner owner) improper live l.proper;
      still = list_any-without_first (is_owner owner) is_gone live l.still;
      holds = subst (HoldsTables new) goes (undoes live task l.sound there l.holds);
      shown = next.items_are;
    }

-- What the loop keeps: entries that are live now, of which the others' are those of the start.
pub record Undoing (k : Kernel) (owner : ℕ) (items : List Undo) (start : List Entry) : Type 0 where
  pub live : List Entry
  pub now : IsLive k owner items live
  pub others : Without live owner ≡ Without start owner

pub undoing_first : (k : Kernel) (owner : ℕ) (items : List Undo) (start : List Entry) → IsLive k owner items start → Undoing k owner items start
undoing_first k owner items start l = record { live = start; now = l; others = refl }

pub undoing_next : (old new : Kernel) (owner : ℕ) (item : Undo) (items : List Undo) (start : List Entry) → Undoing old owner (item ∷ items) start → Undoes old owner item new → Undoing new owner items start
undoing_next old new owner item items start u undoes =
    let next = next_of old owner u.live (filter (is_owner owner) u.live) item items u.now refl in
    record { live = older owner u.live; now = undone_is old new owner item items u.live u.now undoes; others = next.newest_is.others ∙ u.others }

-- where no item is left, no entry of the owner is
none_left : (owner : ℕ) (live : List Entry) → list_any is_gone live ≡ false → [] ≡ net_items owner live → filter (is_owner owner) live ≡ []
none_left owner [] still h = refl
none_left owner (e ∷ live) still h =
    let here : is_gone e ≡ false = grind arith in
    elim (is_owner owner e) as (λ b. is_owner owner e ≡ b → filter (is_owner owner) (e ∷ live) ≡ []) [
      | true ↦ λ own. (let has = has_item e.owner e.update (granted live owner) here in cc (some_items owner e live has.item own has.is h))
      | false ↦ λ other. grind (arith, none_left owner live)
    ] refl
  where
    some_items : (owner : ℕ) (e : Entry) (live : List Entry) (item : Undo) → is_owner owner e ≡ true → item_of e.update (granted live owner) ≡ Some item → [] ≡ net_items owner (e ∷ live) → [] ≡ item ∷ net_items owner live
    some_items owner e live item own is h = grind arith

pub undoing_all : (k : Kernel) (owner : ℕ) (start : List Entry) → Undoing k owner [] start → HoldsTables k (Without start owner)
undoing_all k owner start u = subst (HoldsTables k) (sym (all_others owner u.live (none_left owner u.live u.now.still u.now.shown)) ∙ u.others) u.now.holds
