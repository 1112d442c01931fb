-- What it is to take back one live update of an owner, and all of them.
use Rattle.std.specs.Prelude.{◌≡◌, ℕ, ◌+◌, ◌*◌, length, ◌<◌, ◌≤◌, Bool, true, false, not, eqb, List, [], ◌∷◌, get_or, ℤ}
use Rattle.std.specs.List.{list_any, count_by}
use Rattle.sd_base.specs.declared.history.Update.{Update}
use Rattle.sd_base.specs.declared.history.Update.TheVariants.{Work}
use Rattle.sd_base.specs.Selection.{without_first, passes}
use Rattle.sd_base.specs.History.{Entry, Key, block_key, free_key, line_key, ports_key, device_key, param_key, timer_key, lock_key, hold_key, work_key, mask_key, Without, live_key, same_resource, OfNothing, is_of}
use Rattle.sd_base.specs.Allowed.{is_proper}
use Rattle.sd_base.specs.Sound.{IsSound}
use Rattle.claim_table.specs.ClaimCalls.{holds_line, holds_ports, holds_device, holds_param}
use Rattle.grant_table.specs.BlockRows.{ends_with, is_freed_at}
use Rattle.share_table.specs.Locks.{lock_at}
use Rattle.share_table.specs.Masks.{mask_at}
use Rattle.share_table.specs.Holds.{holds_at}
use Rattle.share_table.specs.Queue.{is_owned}
use Rattle.share_table.specs.Rows.{ShareRows}
use Rattle.share_table.specs.Table.{HoldsShares}
use Rattle.timer_table.specs.Order.{is_timer}
use Rattle.kernel_tables.specs.declared.kernel.Kernel.{Kernel}
use Rattle.kernel_tables.specs.Standing.{HoldsTables}
use Rattle.update_tracker.specs.declared.undo.Undo.{Undo}
use Rattle.update_tracker.specs.declared.undo.Undo.TheVariants as undo
use Rattle.update_tracker.specs.NetPart.{net_items}

-- the key under which the update of an item is live; a lock's is its activity's
abbrev pub undo_key : ℕ → Undo → Key
undo_key task (undo.Block base) = block_key
undo_key task (undo.Free base) = free_key base
undo_key task (undo.Line line) = line_key line
undo_key task (undo.Ports base n) = ports_key base n
undo_key task (undo.Device id) = device_key id
undo_key task (undo.Param key) = param_key key
undo_key task (undo.Timer id) = timer_key id
undo_key task (undo.Lock lock) = lock_key lock task
undo_key task (undo.Mask t) = mask_key t
undo_key task (undo.Hold domain) = hold_key domain
undo_key task (undo.Work handler arg) = work_key

-- the tables have what the item names: for each kind the condition of the call that removes it
abbrev pub CanUndo : Kernel → ℕ → Undo → Type 0
CanUndo k owner (undo.Block base) = ends_with base (get_or k.grants owner []) ≡ true
CanUndo k owner (undo.Free base) = is_freed_at base (get_or k.grants owner []) ≡ true
CanUndo k owner (undo.Line line) = holds_line k.claims owner line ≡ true
CanUndo k owner (undo.Ports base n) = holds_ports k.claims owner base n ≡ true
CanUndo k owner (undo.Device id) = holds_device k.claims owner id ≡ true
CanUndo k owner (undo.Param key) = holds_param k.claims owner key ≡ true
CanUndo k owner (undo.Timer id) = list_any (is_timer owner id) k.timers ≡ true
CanUndo k owner (undo.Lock lock) = passes (λ who. eqb who.owner owner) (lock_at k.shares.locks lock) ≡ true
CanUndo k owner (undo.Mask task) = (task ≤ 8) × (mask_at k.shares.masks owner task ≡ true)
CanUndo k owner (undo.Hold domain) = 0 < holds_at k.shares.holds owner domain
CanUndo k owner (undo.Work handler arg) = list_any (is_owned owner) k.shares.work ≡ true

-- Of whatever sound live entries the tables hold their parts, among which the item's is, they then hold the parts of those without it.
abbrev pub Undoes : Kernel → ℕ → Undo → Kernel → Type 0
Undoes old owner item new =
    (live : List Entry) (task : ℕ) → IsSound live → list_any (is_of owner (undo_key task item)) live ≡ true →
    HoldsTables old live → HoldsTables new (without_first (is_of owner (undo_key task item)) live)

-- the steps that an item takes at most: an item of work turns the whole queue
abbrev pub cost_of : Undo → ℕ
cost_of (undo.Work handler arg) = 256
cost_of _ = 1

-- Live entries of which the tables hold their parts: sound, each asked for under its condition, none of them one that is never live,
-- and of this owner these items.
pub record IsLive (k : Kernel) (owner : ℕ) (items : List Undo) (live : List Entry) : Type 0 where
  pub sound : IsSound live
  pub proper : list_any (λ (e : Entry). not (is_proper e.owner e.update)) live ≡ false
  pub still : list_any (λ (e : Entry). same_resource (live_key e.update).resource OfNothing) live ≡ false
  pub holds : HoldsTables k live
  pub shown : items ≡ net_items owner live

-- there are live entries of which the tables hold their parts
pub record HasLive (k : Kernel) (owner : ℕ) (items : List Undo) : Type 0 where
  pub live : List Entry
  pub is : IsLive k owner items live

-- Of whatever live entries the tables held their parts, they then hold the parts of the others'.
abbrev pub LosesAll : Kernel → ℕ → List Undo → Kernel → Type 0
LosesAll old owner items new = (live : List Entry) → IsLive old owner items live → HoldsTables new (Without live owner)

-- the steps that the items take at most
abbrev pub cost_of_all : List Undo → ℕ
cost_of_all [] = 0
cost_of_all (item ∷ items) = cost_of item + cost_of_all items

abbrev pub queues : Update → Bool
queues (Work handler arg) = true
queues _ = false

-- the steps that a net list takes at most: one for each entry, and 256 more for each item of work
abbrev pub steps_for : List Update → ℕ
steps_for net = length net + 256 * count_by queues net

-- Of whatever sound live entries the table holds its part, one of them by which an activity of the owner took this lock, it then holds
-- the part of those without it.
abbrev pub LosesLock : ShareRows → ℕ → ℤ → ShareRows → Type 0
LosesLock old owner lock new =
    (live : List Entry) (task : ℕ) → IsSound live → list_any (is_of owner (lock_key lock task)) live ≡ true →
    HoldsShares old live → HoldsShares new (without_first (is_of owner (lock_key lock task)) live)
