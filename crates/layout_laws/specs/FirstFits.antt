-- The load image holds values that fit their types: the state in which a driver is loaded keeps what each rule assumes of memory.
use Rattle.std.specs.Prelude.{◌≡◌, ℕ, ◌+◌, ◌*◌, ◌<◌, List, Some, slice_get, slice_index_or, Ok}
use Rattle.sd_base.specs.Blocks.{Block}
use Rattle.c_tree.specs.declared.items.Unit.{Unit as TextUnit}
use Rattle.checked_tree.specs.declared.shapes.Shape.{Shape}
use Rattle.checked_tree.specs.declared.units.ImageBlock.{ImageBlock}
use Rattle.deputy_types.specs.Fitting.{shape_size, BytesFit}
use Rattle.deputy_types.specs.Table.{Table}
use Rattle.deputy_types.specs.UnitLayout.{layout}

-- a memory with the bytes of a block where it lies
abbrev pub Holds : List ℕ → ImageBlock → Type 0
Holds memory b = (i : ℕ) → i < b.size → slice_index_or memory (b.base + i) 0 ≡ slice_index_or b.bytes i 0

-- in such a memory each element of the block fits its type, whatever blocks are granted
abbrev pub FitsAtFirst : Table → ImageBlock → Type 0
FitsAtFirst t b =
    (granted : List Block) (memory : List ℕ) (x : Shape) (j : ℕ) → Holds memory b → slice_get t.elems b.elem ≡ Some x → j < b.count
    → BytesFit granted t.elems t.structs memory (b.base + j * shape_size t.structs x) x

-- so it is with each block of the image of each text
abbrev pub EachBlockFitsAtFirst : Type 0
EachBlockFitsAtFirst =
    (u : TextUnit) (t : Table) (n : ℕ) (b : ImageBlock) → layout u ≡ Ok t → slice_get t.image n ≡ Some b → FitsAtFirst t b
