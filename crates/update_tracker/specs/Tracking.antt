-- The histories for which tracked tables stand.
use Rattle.std.specs.Prelude.{◌≡◌, ℕ, ◌≤◌, List, ◌∷◌, length, get_or, OnOk}
use Rattle.sd_base.specs.declared.history.Update.{Update}
use Rattle.sd_base.specs.History.{History, entry, live_of}
use Rattle.sd_base.specs.Allowed.{IsLawful, IsProper}
use Rattle.kernel_tables.specs.declared.kernel.Kernel.{Kernel}
use Rattle.kernel_tables.specs.Standing.{StandsFor}
use Rattle.update_tracker.specs.declared.undo.Undo.{Undo}
use Rattle.update_tracker.specs.NetRows.{NetRows, no_rows}
use Rattle.update_tracker.specs.NetPart.{ShowsNet}
use Rattle.update_tracker.specs.Answered.{Answer, answered}

-- the kernel's tables, of each owner the log of its live updates, and what was taken back last
pub record TrackedRows : Type 0 where
  pub kernel : Kernel
  pub logs : List NetRows
  pub undone : List Undo

-- the tables and the clock are those of a history, and each log shows the net list of its owner
pub record Stands (t : TrackedRows) (h : History) : Type 0 where
  pub kernel : StandsFor t.kernel h
  pub logs : (owner : ℕ) → owner ≤ 4 → ShowsNet owner (get_or t.logs owner no_rows) (live_of h)

-- there is a lawful history for which they stand
pub record HasHistory (t : TrackedRows) : Type 0 where
  pub history : History
  pub lawful : IsLawful t.kernel.claims.share history
  pub proper : IsProper history
  pub stands : Stands t history
  pub places : length t.logs ≡ 5

-- For every lawful history for which they stand, an owner's update is answered as the history says, and where it is accepted
-- they then stand for the history with the update.
abbrev pub ServesTracked : TrackedRows → ℕ → Update → Answer → TrackedRows → Type 0
ServesTracked old owner update answer new =
    (h : History) → IsLawful old.kernel.claims.share h → IsProper h → Stands old h →
    (answer ≡ answered old.kernel.claims.share h owner update) × OnOk answer (Stands new (entry owner update ∷ h))

-- what is said of every lawful history for which they stand
abbrev pub OfEachHistory : TrackedRows → (History → Type 0) → Type 0
OfEachHistory t P = (h : History) → IsLawful t.kernel.claims.share h → IsProper h → Stands t h → P h
