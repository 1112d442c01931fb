-- A net list, by items and by updates.
use Rattle.std.proofs.Common.{◌≡◌, ℕ, true, false, cond, List, [], ◌∷◌, map, Some, None, refl, ap, sym, ◌∙◌, arith}
use Rattle.std.specs.List.{filter, list_any}
use Rattle.sd_base.specs.declared.history.Update.{Update}
use Rattle.sd_base.specs.declared.history.Update.TheVariants.{Grant, Free, Line, Ports, Device, Param, Timer, Lock, Hold, Work, Mask}
use Rattle.sd_base.specs.History.{Entry, History, is_owner, live_of, net_of}
use Rattle.sd_base.specs.Blocks.{Block, granted, blocks_after}
use Rattle.update_tracker.specs.declared.undo.Undo.{Undo}
use Rattle.update_tracker.specs.NetPart.{in_front, item_of, net_items}
use Rattle.update_tracker.specs.NetLists.{updates_of}
use Rattle.update_tracker.proofs.Caps.{is_gone, none_gone}
use Rattle.update_tracker.specs.Entries.{blocks_in, AreItemsOf}

-- an update that is live has an item
pub record HasItem (u : Update) (blocks : List Block) : Type 0 where
  pub item : Undo
  pub is : item_of u blocks ≡ Some item

pub has_item : (by : ℕ) (u : Update) (blocks : List Block) → is_gone (record { owner = by; update = u }) ≡ false → HasItem u blocks
has_item by (Grant layout n image) blocks h = record { item = _; is = refl }
has_item by (Free base) blocks h = record { item = _; is = refl }
has_item by (Line line handler) blocks h = record { item = _; is = refl }
has_item by (Ports base n) blocks h = record { item = _; is = refl }
has_item by (Device id) blocks h = record { item = _; is = refl }
has_item by (Param key value) blocks h = record { item = _; is = refl }
has_item by (Timer id due handler arg) blocks h = record { item = _; is = refl }
has_item by (Lock lock task) blocks h = record { item = _; is = refl }
has_item by (Hold domain) blocks h = record { item = _; is = refl }
has_item by (Work handler arg) blocks h = record { item = _; is = refl }
has_item by (Mask task) blocks h = record { item = _; is = refl }
has_item by u blocks h = cc

-- an owner's blocks are those of its own updates
pub blocks_own : (owner : ℕ) (live : List Entry) → granted live owner ≡ blocks_in (updates_of (filter (is_owner owner) live))
blocks_own owner [] = refl
blocks_own owner (e ∷ live) =
    elim (is_owner owner e) as (λ b. cond b (blocks_after e.update (granted live owner)) (granted live owner) ≡ blocks_in (updates_of (cond b (e ∷ filter (is_owner owner) live) (filter (is_owner owner) live)))) [
      | true ↦ ap (blocks_after e.update) (blocks_own owner live)
      | false ↦ blocks_own owner live
    ]

items_step : (owner : ℕ) (u : Update) (blocks : List Block) (items : List Undo) (net : List Update) → HasItem u blocks → blocks ≡ blocks_in net → AreItemsOf items net → AreItemsOf (in_front (item_of u blocks) items) (u ∷ net)
items_step owner u blocks items net has same are =
    let here : in_front (item_of u blocks) items ≡ has.item ∷ items = ap (λ o. in_front o items) has.is in
    ap (map (λ (item : Undo). Some item)) here ∙ ap (λ o. o ∷ map (λ (item : Undo). Some item) items) (sym has.is ∙ ap (item_of u) same) ∙ ap (λ os. item_of u (blocks_in net) ∷ os) are

-- the items of an owner's live entries are those of its updates, entry by entry
pub items_are : (owner : ℕ) (live : List Entry) → list_any is_gone live ≡ false → AreItemsOf (net_items owner live) (updates_of (filter (is_owner owner) live))
items_are owner [] none = refl
items_are owner (e ∷ live) none =
    let here : is_gone e ≡ false = grind arith in
    let rest : list_any is_gone live ≡ false = grind arith in
    elim (is_owner owner e) as (λ b. AreItemsOf (in_front (cond b (item_of e.update (granted live owner)) None) (net_items owner live)) (updates_of (cond b (e ∷ filter (is_owner owner) live) (filter (is_owner owner) live)))) [
      | true ↦ items_step owner e.update (granted live owner) (net_items owner live) (updates_of (filter (is_owner owner) live)) (has_item e.owner e.update (granted live owner) here) (blocks_own owner live) (items_are owner live rest)
      | false ↦ items_are owner live rest
    ]

-- and so for the net list of a history
pub net_items_are : (h : History) (owner : ℕ) → AreItemsOf (net_items owner (live_of h)) (net_of h owner)
net_items_are h owner = items_are owner (live_of h) (none_gone h)
