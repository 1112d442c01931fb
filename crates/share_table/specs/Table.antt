-- The history of which the table holds its part.
use Rattle.std.specs.Prelude.{◌≡◌, ℕ, List, reverse, [], ◌∷◌, Option, Some, None}
use Rattle.sd_base.specs.declared.history.Update.TheVariants.{Taken}
use Rattle.sd_base.specs.History.{Entry, History, live_of}
use Rattle.sd_base.specs.Allowed.{IsLawful, IsProper}
use Rattle.sd_base.specs.Part.{Serves}
use Rattle.std.specs.List.{filter_map}
use Rattle.share_table.specs.declared.queue.Work.{Work}
use Rattle.share_table.specs.Locks.{HoldsLocks}
use Rattle.share_table.specs.Masks.{HoldsMasks}
use Rattle.share_table.specs.Holds.{HoldsHolds}
use Rattle.share_table.specs.Queue.{work_row, HoldsWork}
use Rattle.share_table.specs.Rows.{ShareRows}

-- the table holds its part of what is live, each kind by its own rule
pub record HoldsShares (rows : ShareRows) (live : List Entry) : Type 0 where
  pub locks : HoldsLocks rows.locks live
  pub masks : HoldsMasks rows.masks live
  pub holds : HoldsHolds rows.holds live
  pub work : HoldsWork rows.work live

-- An empty queue gives nothing and stays. Else the front is given, and taking it is an update of its owner that every history allows.
abbrev pub TakesFront : ShareRows → Option Work → ShareRows → Type 0
TakesFront old None new = (old.work ≡ []) × (new ≡ old)
TakesFront old (Some work) new = (old.work ≡ work ∷ new.work) × Serves HoldsShares old work.owner Taken None new

-- what is said of every lawful history, whatever its share, of which the table holds its part
abbrev pub OfEachHistory : ShareRows → (History → Type 0) → Type 0
OfEachHistory t P = (share : ℕ) (h : History) → IsLawful share h → IsProper h → HoldsShares t (live_of h) → P h

-- the queue of work after a history, the oldest item first
abbrev pub queue_of : History → List Work
queue_of h = reverse (filter_map work_row (live_of h))
