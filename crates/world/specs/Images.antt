-- The load image of a driver, put in its place block by block: what the kernel's tables and the driver's memory stand for then.
-- Here: Filled, TellsDriver, TellsSome, image_layout, copied, placed_in, with_block, with_image, FillsHost, LoadsHost, IsKnown
use Rattle.std.specs.Prelude.{◌≡◌, ℕ, ◌+◌, ◌*◌, ◌≤◌, cond, List, [], ◌∷◌, ◌++◌, take, set, length}
use Rattle.sd_base.specs.declared.history.Layout.{Layout}
use Rattle.sd_base.specs.History.{History, entry, clock_of}
use Rattle.sd_base.specs.Blocks.{next_base, granted}
use Rattle.sd_base.specs.Allowed.{IsLawful, IsProper}
use Rattle.byte_memory.specs.Tested.{Memory}
use Rattle.device_model.specs.Scripted.{Scripted}
use Rattle.update_tracker.specs.Tracking.{TrackedRows, Stands}
use Rattle.checked_tree.specs.declared.units.CheckedUnit.{CheckedUnit}
use Rattle.checked_tree.specs.declared.units.ImageBlock.{ImageBlock}
use Rattle.driver_host.specs.declared.host.Host.{Host}
use Rattle.driver_host.specs.Hosting.{IsHost, memory_from}
use Rattle.world_core.specs.WorldState.{bytes_of, with_memory}
use Rattle.world_core.specs.Script.{is_accepted, without_driver}
use Rattle.world_core.specs.Laws.{image_granted}
use Rattle.world_core.specs.Loading.{element_size, image_grant, image_memory}
use Rattle.world.specs.Standing.{unit_at}

-- ---- one driver's memory

-- what an image is put into: a history, and the bytes of the driver's memory
pub record Filled : Type 0 where
  pub history : History
  pub bytes : List ℕ

-- The tables stand for the history, and the memory has the bytes, with what the history grants to the owner.
pub record TellsDriver (kernel : TrackedRows) (arena : Memory) (share owner : ℕ) (f : Filled) : Type 0 where
  pub holders : kernel.kernel.claims.share ≡ share
  pub lawful : IsLawful share f.history
  pub proper : IsProper f.history
  pub tables : Stands kernel f.history
  pub clock : clock_of f.history ≤ 2000000000
  pub memory : arena ≡ memory_from owner f.history f.bytes
  pub sized : length f.bytes ≡ 1048576

-- they stand for some
pub record TellsSome (kernel : TrackedRows) (memory : Memory) (owner : ℕ) : Type 0 where
  pub share : ℕ
  pub filled : Filled
  pub tells : TellsDriver kernel memory share owner filled

-- ---- a block

-- a block of a load image as it is granted
abbrev pub image_layout : ImageBlock → Layout
image_layout b = record { elem = b.elem; size = element_size b; nullterm = b.nullterm }

-- bytes with new ones in their place from an address on, one after the other
abbrev pub copied : List ℕ → ℕ → List ℕ → List ℕ
copied bytes at [] = bytes
copied bytes at (x ∷ xs) = copied (set bytes at x) (at + 1) xs

-- a memory with a range granted, and these bytes, as many as the range has room for, copied in
abbrev pub placed_in : Memory → ℕ → ℕ → List ℕ → Memory
placed_in m base size bytes = record {
  bytes = copied m.bytes base (take size bytes);
  granted = m.granted ++ record { base = base; size = size } ∷ [];
}

-- the block is granted, and its bytes are copied to where it lies
abbrev pub placed : ℕ → ImageBlock → Filled → Filled
placed owner b f = record {
  history = entry owner (image_grant b) ∷ f.history;
  bytes = copied f.bytes (next_base (granted f.history owner)) (take (element_size b * b.count) b.bytes);
}

-- the block in its place, where the history accepts its grant
abbrev pub with_block : ℕ → ℕ → ImageBlock → Filled → Filled
with_block share owner b f = cond (is_accepted share f.history owner (image_grant b)) (placed owner b f) f

-- each block of an image in its place, in order
abbrev pub with_image : ℕ → ℕ → List ImageBlock → Filled → Filled
with_image share owner [] f = f
with_image share owner (b ∷ bs) f = with_image share owner bs (with_block share owner b f)

-- ---- the host

-- one driver's part of what a host stands for
abbrev pub part_of : History → List (List ℕ) → ℕ → Filled
part_of h memories owner = record { history = h; bytes = bytes_of memories owner }

-- Whatever it stood for, it stands afterwards for that with the image in its place.
pub record FillsHost (old : Host) (owner : ℕ) (image : List ImageBlock) (new : Host) : Type 0 where
  pub to : (share : ℕ) (h : History) (memories : List (List ℕ)) (devices : Scripted) → IsHost share old h memories devices
      → IsHost share new (with_image share owner image (part_of h memories owner)).history
      (with_memory owner (with_image share owner image (part_of h memories owner)).bytes memories) devices

-- it stands for something, with a memory for each driver
pub record IsKnown (units : List CheckedUnit) (host : Host) : Type 0 where
  pub share : ℕ
  pub history : History
  pub memories : List (List ℕ)
  pub devices : Scripted
  pub is : IsHost share host history memories devices
  pub count : length memories ≡ length units
  pub few : length units ≤ 4

-- Whatever it stood for, it stands afterwards for the load state of the driver.
pub record LoadsHost (units : List CheckedUnit) (old : Host) (driver : ℕ) (new : Host) : Type 0 where
  pub to : (share : ℕ) (h : History) (memories : List (List ℕ)) (devices : Scripted) → IsHost share old h memories devices
      → length memories ≡ length units
      → IsHost share new (image_granted share driver (unit_at units driver).image (without_driver driver h))
      (with_memory driver (image_memory (unit_at units driver)) memories) devices
