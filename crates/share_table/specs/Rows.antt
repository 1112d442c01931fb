-- What the table contains.
use Rattle.std.specs.Prelude.{ℕ, Bool, List, Option}
use Rattle.sd_base.specs.declared.actors.Who.{Who}
use Rattle.share_table.specs.declared.queue.Work.{Work}

-- the holder of each lock, each activity's mask, each owner's holds on each domain, and the queue from its front
pub record ShareRows : Type 0 where
  pub locks : List (Option Who)
  pub masks : List Bool
  pub holds : List ℕ
  pub work : List Work
