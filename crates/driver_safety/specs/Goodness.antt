-- A good state of a function's frame and of the memory: each local is in the range of its type, and each pointer, in a slot and in memory,
-- fits by the names of its own
-- function or struct. The frame and the memory do not speak of each other; both read the granted blocks alone.
use Rattle.std.specs.Prelude.{◌≡◌, ◌⊎◌, IsTrue, ℕ, ◌+◌, ◌-◌, ◌*◌, ◌<◌, ◌≤◌, true, false, List, All, Option, Some, None}
use Rattle.std.specs.Prelude.{length, slice_get, slice_index_or}
use Rattle.std.specs.List.{Contains}
use Rattle.sd_base.specs.Blocks.{Block, block_end}
use Rattle.byte_memory.specs.Tested.{Memory, is_inside}
use Rattle.c_tree.specs.Slots.{hidden_slot}
use Rattle.checked_tree.specs.declared.shapes.Bounds.{Bounds}
use Rattle.checked_tree.specs.declared.shapes.Bounds.TheVariants as bounds
use Rattle.checked_tree.specs.declared.shapes.Shape.{Shape}
use Rattle.checked_tree.specs.declared.shapes.Shape.TheVariants as shape
use Rattle.checked_tree.specs.declared.units.ImageBlock.{ImageBlock}
use Rattle.checked_tree.specs.Conditions.{State}
use Rattle.checked_tree.specs.Numbers.{is_of, is_word, is_value}
use Rattle.deputy_types.specs.Fitting.{Fits, FitsBounds, BytesFit, elem_bytes}
use Rattle.deputy_types.specs.Table.{Table}
use Rattle.deputy_rules.specs.Context.{Context, slot_shape}
use Rattle.deputy_rules.specs.NameValues.{local_at}

-- ---- the frame
-- a local pointer whose bounds lie in two hidden slots
abbrev pub FitsHidden : Context → List Block → State → ℕ → ℕ → Option ℕ → Type 0
FitsHidden ctx blocks st slot elem None = ⊥
FitsHidden ctx blocks st slot elem (Some h) = Fits blocks ctx.table.elems ctx.table.structs elem false (local_at st h)
    (local_at st (h + 1)) (local_at st slot)

-- a pointer in a slot fits by the names of its own frame
abbrev pub SlotFits : Context → List Block → State → ℕ → ℕ → Bounds → Type 0
SlotFits ctx blocks st slot elem bounds.Hidden = FitsHidden ctx blocks st slot elem (hidden_slot ctx.locals slot)
SlotFits ctx blocks st slot elem bounds.Nullterm =
    FitsBounds blocks ctx.table.elems ctx.table.structs (local_at st) elem bounds.Nullterm (local_at st slot)
SlotFits ctx blocks st slot elem (bounds.Within lo hi) =
    FitsBounds blocks ctx.table.elems ctx.table.structs (local_at st) elem (bounds.Within lo hi) (local_at st slot)

abbrev pub SlotHolds : Context → List Block → State → ℕ → Shape → Type 0
SlotHolds ctx blocks st slot (shape.Int s) = IsTrue (is_of s (local_at st slot))
SlotHolds ctx blocks st slot (shape.Pointer elem b) = IsTrue (is_word (local_at st slot)) × SlotFits ctx blocks st slot elem b
SlotHolds ctx blocks st slot (shape.Struct s) = ⊥
SlotHolds ctx blocks st slot shape.Address = IsTrue (is_word (local_at st slot))

pub record IsFrame (ctx : Context) (blocks : List Block) (st : State) : Type 0 where
  -- each slot has a value of 32 bits, and there is a place for each that is declared
  pub values : (k : ℕ) → IsTrue (is_value (local_at st k))
  pub long : (k : ℕ) (x : Shape) → slot_shape ctx k ≡ Some x → k < length st.locals
  pub holds : (k : ℕ) (x : Shape) → slot_shape ctx k ≡ Some x → SlotHolds ctx blocks st k x

-- ---- the memory
-- a granted block: an array of its element's type within the memory, behind the first 16 bytes. What lies in it is inside
pub record IsBlock (t : Table) (blocks : List Block) (m : Memory) (b : Block) : Type 0 where
  pub shape : Shape
  pub shape_is : slice_get t.elems b.layout.elem ≡ Some shape
  pub size : b.layout.size ≡ elem_bytes t.elems t.structs b.layout.elem
  pub from : 16 ≤ b.base
  pub to : block_end b ≤ 1048576
  pub inside : (at n : ℕ) → b.base ≤ at → at + n ≤ block_end b → IsTrue (is_inside m at n)
  pub there : block_end b ≤ length m.bytes
  -- each element fits its type; text is bytes, of which the last is 0
  pub fit : (i : ℕ) → b.layout.nullterm ≡ false → i < b.count → BytesFit blocks t.elems t.structs m.bytes (b.base + i * b.layout.size) shape
  pub text : b.layout.nullterm ≡ true → (b.layout.size ≡ 1) × (0 < b.count)
  pub ends : b.layout.nullterm ≡ true → slice_index_or m.bytes (block_end b - 1) 0 ≡ 0

-- a block of the load image that is granted
pub record IsGranted (blocks : List Block) (b : ImageBlock) : Type 0 where
  pub block : Block
  pub granted : Contains blocks block
  pub base : block.base ≡ b.base
  pub count : block.count ≡ b.count
  pub elem : block.layout.elem ≡ b.elem
  pub nullterm : block.layout.nullterm ≡ b.nullterm

-- one block, whatever it is used for; or two that share no byte
pub record IsSameBlock (b c : Block) : Type 0 where
  pub base : b.base ≡ c.base
  pub layout : b.layout ≡ c.layout
  pub count : b.count ≡ c.count

abbrev pub AreApart : Block → Block → Type 0
AreApart b c = IsSameBlock b c ⊎ (block_end b ≤ c.base) ⊎ (block_end c ≤ b.base)

pub record IsMemory (t : Table) (blocks : List Block) (m : Memory) : Type 0 where
  pub bytes : All (λ b. b < 256) m.bytes
  pub each : (b : Block) → Contains blocks b → IsBlock t blocks m b
  pub apart : (b c : Block) → Contains blocks b → Contains blocks c → AreApart b c
  pub image : (k : ℕ) (b : ImageBlock) → slice_get t.image k ≡ Some b → IsGranted blocks b

pub record IsGood (ctx : Context) (blocks : List Block) (st : State) : Type 0 where
  pub frame : IsFrame ctx blocks st
  pub memory : IsMemory ctx.table blocks st.memory
