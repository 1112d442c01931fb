-- The law of loads: the first memory of a loaded driver is good. It holds the bytes of the load image where its blocks lie, and these
-- blocks are granted.
use Rattle.std.specs.Prelude.{◌≡◌, ◌+◌, ◌<◌, ◌≤◌, IsTrue, ℕ, List, All, length, Some, slice_get, Ok}
use Rattle.std.specs.List.{Contains}
use Rattle.sd_base.specs.Blocks.{Block, block_end}
use Rattle.byte_memory.specs.Tested.{Memory, is_inside}
use Rattle.c_tree.specs.declared.items.Unit.{Unit as TextUnit}
use Rattle.checked_tree.specs.declared.units.ImageBlock.{ImageBlock}
use Rattle.deputy_types.specs.Fitting.{elem_bytes}
use Rattle.deputy_types.specs.Table.{Table}
use Rattle.deputy_types.specs.UnitLayout.{layout}
use Rattle.layout_laws.specs.FirstFits.{Holds}
use Rattle.driver_safety.specs.Goodness.{IsMemory}

-- the granted block of a block of the image
pub record IsLoadedBlock (t : Table) (i : ImageBlock) (b : Block) : Type 0 where
  pub base : b.base ≡ i.base
  pub count : b.count ≡ i.count
  pub elem : b.layout.elem ≡ i.elem
  pub nullterm : b.layout.nullterm ≡ i.nullterm
  pub size : b.layout.size ≡ elem_bytes t.elems t.structs i.elem

-- a memory behind a load: the blocks of the image are granted, and no others, and hold the image's bytes
pub record IsLoaded (t : Table) (blocks : List Block) (m : Memory) : Type 0 where
  pub bytes : All (λ b. b < 256) m.bytes
  pub long : 524288 ≤ length m.bytes
  pub each : (b : Block) → Contains blocks b → (k : ℕ) × (i : ImageBlock) × (slice_get t.image k ≡ Some i) × IsLoadedBlock t i b
  pub granted : (k : ℕ) (i : ImageBlock) → slice_get t.image k ≡ Some i → (b : Block) × Contains blocks b × IsLoadedBlock t i b
  pub inside : (b : Block) → Contains blocks b → (at n : ℕ) → b.base ≤ at → at + n ≤ block_end b → IsTrue (is_inside m at n)
  pub holds : (k : ℕ) (i : ImageBlock) → slice_get t.image k ≡ Some i → Holds m.bytes i

abbrev pub EachLoadIsGood : Type 0
EachLoadIsGood =
    (u : TextUnit) (t : Table) → layout u ≡ Ok t → (blocks : List Block) (m : Memory) → IsLoaded t blocks m → IsMemory t blocks m
