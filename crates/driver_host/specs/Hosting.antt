-- What drivers run upon, as the code keeps it: the tracked tables, the memory of each driver, and the devices. What it stands for: a lawful
-- history, the bytes of the memories, and the devices' answers.
-- Here: memories_from, cleared, IsHost, Moves, Updates, TakesBack, Reads
use Rattle.std.specs.Prelude.{◌≡◌, ◌≤◌, ℕ, suc, List, [], ◌∷◌, map, reverse, length, set, slice_get, Option, Some, None}
use Rattle.sd_base.specs.declared.history.Refusal.{Refusal}
use Rattle.sd_base.specs.declared.history.Update.{Update}
use Rattle.sd_base.specs.History.{History, live_of, clock_of}
use Rattle.sd_base.specs.Blocks.{granted}
use Rattle.sd_base.specs.Allowed.{refusal, IsLawful, IsProper}
use Rattle.update_tracker.specs.NetPart.{net_items}
use Rattle.update_tracker.specs.Tracking.{Stands}
use Rattle.device_model.specs.Scripted.{Scripted}
use Rattle.byte_memory.specs.Bytes.{zeros}
use Rattle.byte_memory.specs.Tested.{Memory}
use Rattle.driver_host.specs.declared.host.Host.{Host}
use Rattle.world_core.specs.WorldState.{range_of, with_memory, empty_arena}
use Rattle.world_core.specs.Script.{updated, without_driver}

-- the memory of a driver, with the blocks that the history grants to it, the earliest first
abbrev pub memory_from : ℕ → History → List ℕ → Memory
memory_from owner h bytes = record { bytes = bytes; granted = reverse (map range_of (granted h owner)) }

-- the memories of the drivers from this one on
abbrev pub memories_from : ℕ → History → List (List ℕ) → List Memory
memories_from owner h [] = []
memories_from owner h (bytes ∷ more) = memory_from owner h bytes ∷ memories_from (suc owner) h more

-- a memory that is all 0, with nothing granted
abbrev pub cleared : Memory
cleared = record { bytes = empty_arena; granted = [] }

-- the memories with the one at a place emptied, if there is such a place
abbrev pub emptied_in : List Memory → ℕ → Option Memory → List Memory
emptied_in memories place None = memories
emptied_in memories place (Some m) = set memories place (record { bytes = zeros (length m.bytes); granted = [] })

abbrev pub cleared_at : List Memory → ℕ → List Memory
cleared_at memories place = emptied_in memories place (slice_get memories place)

-- memories of the size of an arena
abbrev pub AreArenas : List (List ℕ) → Type 0
AreArenas [] = Unit {0}
AreArenas (bytes ∷ more) = (length bytes ≡ 1048576) × AreArenas more

-- The host stands for this history, these memories and these devices, where so many owners may share a line. The clock is within its range.
pub record IsHost (share : ℕ) (host : Host) (h : History) (memories : List (List ℕ)) (devices : Scripted) : Type 0 where
  pub holders : host.kernel.kernel.claims.share ≡ share
  pub lawful : IsLawful share h
  pub proper : IsProper h
  pub tables : Stands host.kernel h
  pub sizes : AreArenas memories
  pub bytes : host.memories.items ≡ memories_from 1 h memories
  pub answers : host.devices ≡ devices
  pub clock : clock_of h ≤ 2000000000

-- Whatever it stood for, it stands afterwards for that with these changes.
pub record Moves (old new : Host) (on_history : ℕ → History → History) (on_memories : List (List ℕ) → List (List ℕ))
    (on_devices : Scripted → Scripted) : Type 0 where
  pub to : (share : ℕ) (h : History) (memories : List (List ℕ)) (devices : Scripted) → IsHost share old h memories devices →
      IsHost share new (on_history share h) (on_memories memories) (on_devices devices)

-- An owner's update is refused as its rule says, and made where it is not.
pub record Updates (old : Host) (owner : ℕ) (u : Update) (answer : Option Refusal) (new : Host) : Type 0 where
  pub moves : Moves old new (λ share h. updated share owner u h) (λ memories. memories) (λ devices. devices)
  pub refused : (share : ℕ) (h : History) (memories : List (List ℕ)) (devices : Scripted) → IsHost share old h memories devices →
      answer ≡ refusal share h owner u

-- A driver is taken back: the history is without its entries, its memory is all 0, and what it held is told from the newest.
pub record TakesBack (old : Host) (owner : ℕ) (new : Host) : Type 0 where
  pub moves : Moves old new (λ share h. without_driver owner h) (with_memory owner empty_arena) (λ devices. devices)
  pub undone : (share : ℕ) (h : History) (memories : List (List ℕ)) (devices : Scripted) → IsHost share old h memories devices →
      new.kernel.undone ≡ net_items owner (live_of h)

-- An answer is one of every history for which the host stands.
pub record Reads (host : Host) (P : History → Type 0) : Type 0 where
  pub to : (share : ℕ) (h : History) (memories : List (List ℕ)) (devices : Scripted) → IsHost share host h memories devices → P h
