-- The queue of work, in the order of the history.
use Rattle.std.specs.Prelude.{◌≡◌, ℕ, ◌≤◌, Bool, false, cond, ◌||◌, eqb, ltb, List, [], ◌∷◌, ◌++◌, reverse, Option, Some, None, count_by}
use Rattle.std.specs.List.{list_any, filter_map}
use Rattle.sd_base.specs.declared.history.Refusal.{Refusal}
use Rattle.sd_base.specs.declared.history.Refusal.TheVariants.{Full}
use Rattle.sd_base.specs.declared.history.Update.{Update}
use Rattle.sd_base.specs.declared.history.Update.TheVariants.{Work as Queues}
use Rattle.sd_base.specs.History.{Entry}
use Rattle.share_table.specs.declared.queue.Work.{Work}

-- the item is this owner's
abbrev pub is_owned : ℕ → Work → Bool
is_owned owner work = eqb work.owner owner

abbrev pub work_row_of : ℕ → Update → Option Work
work_row_of owner (Queues handler arg) = Some (record { owner = owner; handler = handler; arg = arg })
work_row_of owner _ = None

-- the item that a live entry queued, if it queued one
abbrev pub work_row : Entry → Option Work
work_row e = work_row_of e.owner e.update

-- the table holds its part of what is live: the queued items, the oldest at the front
abbrev pub HoldsWork : List Work → List Entry → Type 0
HoldsWork items live = items ≡ reverse (filter_map work_row live)

-- why an owner's item is not put at the end of these
abbrev pub put_refusal : List Work → ℕ → Option Refusal
put_refusal items owner = cond (ltb (count_by (is_owned owner) items) 64) None (Some Full)

-- no owner but 1 to 4
abbrev pub is_astray : Work → Bool
is_astray work = eqb work.owner 0 || ltb 4 work.owner

-- items of owners 1 to 4, at most 64 of each, and room for all that there may be
pub record IsQueue (items : List Work) (capacity : ℕ) : Type 0 where
  pub in_range : list_any is_astray items ≡ false
  pub few : (owner : ℕ) → count_by (is_owned owner) items ≤ 64
  pub room : capacity ≡ 256

-- the items once the front has gone to the end, or out
abbrev pub turned : Bool → List Work → List Work
turned keep [] = []
turned keep (work ∷ items) = items ++ cond keep (work ∷ []) []
