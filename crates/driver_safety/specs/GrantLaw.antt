-- The law of grants: the memory stays good where the kernel grants a block of new elements, whose bytes are 0.
use Rattle.std.specs.Prelude.{◌≡◌, ◌⊎◌, ◌+◌, ◌*◌, ◌≤◌, IsTrue, ℕ, List, false, length, Some, slice_get, Ok}
use Rattle.std.specs.List.{Contains}
use Rattle.sd_base.specs.Blocks.{Block, block_end}
use Rattle.byte_memory.specs.Tested.{Memory, is_inside}
use Rattle.c_tree.specs.declared.items.Unit.{Unit as TextUnit}
use Rattle.checked_tree.specs.declared.shapes.Shape.{Shape}
use Rattle.deputy_types.specs.Fitting.{AreZero, elem_bytes}
use Rattle.deputy_types.specs.Table.{Table}
use Rattle.deputy_types.specs.UnitLayout.{layout}
use Rattle.driver_safety.specs.Goodness.{IsMemory}

-- one block more is granted: behind or before each other one, in the memory, with elements of a type of the text. No byte has changed
pub record IsGranting (t : Table) (blocks more : List Block) (m after : Memory) (b : Block) : Type 0 where
  pub all : (c : Block) → Contains blocks c → Contains more c
  pub new : Contains more b
  pub only : (c : Block) → Contains more c → Contains blocks c ⊎ (c ≡ b)
  pub shape : Shape
  pub shape_is : slice_get t.elems b.layout.elem ≡ Some shape
  pub size : b.layout.size ≡ elem_bytes t.elems t.structs b.layout.elem
  pub no_text : b.layout.nullterm ≡ false
  pub from : 16 ≤ b.base
  pub to : block_end b ≤ 1048576
  pub there : block_end b ≤ length m.bytes
  pub apart : (c : Block) → Contains blocks c → (block_end c ≤ b.base) ⊎ (block_end b ≤ c.base)
  pub bytes : after.bytes ≡ m.bytes
  pub inside : (at n : ℕ) → b.base ≤ at → at + n ≤ block_end b → IsTrue (is_inside after at n)
  pub kept : (at n : ℕ) → IsTrue (is_inside m at n) → IsTrue (is_inside after at n)

abbrev pub EachGrantKeepsMemory : Type 0
EachGrantKeepsMemory =
    (u : TextUnit) (t : Table) → layout u ≡ Ok t → (blocks more : List Block) (m after : Memory) (b : Block) → IsMemory t blocks m
    → IsGranting t blocks more m after b → AreZero m.bytes b.base (b.layout.size * b.count) → IsMemory t more after
