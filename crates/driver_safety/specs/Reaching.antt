-- What a pointer reaches: the same as that it fits (deputy_types), said of the shape of what it points to in place of the number of an
-- element. So it can be said of
-- `&l.f` too, whose type need not be among the elements that a text declares pointers to.
use Rattle.std.specs.Prelude.{◌≡◌, ℕ, ◌+◌, ◌-◌, ◌*◌, ◌<◌, ◌≤◌, Bool, true, false, List, ℤ, pos, Some, slice_get}
use Rattle.std.specs.List.{Contains}
use Rattle.sd_base.specs.Blocks.{Block, block_end}
use Rattle.checked_tree.specs.declared.shapes.Shape.{Shape}
use Rattle.checked_tree.specs.declared.shapes.StructShape.{StructShape}
use Rattle.deputy_types.specs.Fitting.{IsInText, Part as Lies, is_open, shape_size}
use Rattle.deputy_types.specs.StructLaws.{IsMultiple}

-- a place of this shape in a block, of which no annotation, no tag and no union speaks
pub record IsOpenAt (elems : List Shape) (structs : List StructShape) (block : Block) (own : Shape) (at : ℕ) : Type 0 where
  pub element : Shape
  pub element_is : slice_get elems block.layout.elem ≡ Some element
  pub place : ℕ
  pub within : place < block.count
  pub part : Lies structs is_open (block.base + place * block.layout.size) element at own

-- a value between two bounds in one block, whole elements of this shape past the low one; each whole element between the bounds is such a
-- place
pub record IsBetween (blocks : List Block) (elems : List Shape) (structs : List StructShape) (own : Shape) (low high v : ℤ) : Type 0 where
  pub block : Block
  pub granted : Contains blocks block
  pub no_text : block.layout.nullterm ≡ false
  pub from : ℕ
  pub from_is : low ≡ pos from
  pub to : ℕ
  pub to_is : high ≡ pos to
  pub at : ℕ
  pub at_is : v ≡ pos at
  pub above : from ≤ at
  pub below : at ≤ to
  pub whole : IsMultiple (shape_size structs own) (at - from)
  pub from_in : block.base ≤ from
  pub to_in : to ≤ block_end block
  pub elements : (i : ℕ) → from + (i + 1) * shape_size structs own ≤ to → IsOpenAt elems structs block own (from + i * shape_size structs
      own)

-- a pointer to what has this shape, with these bounds: it is null, or points into text, or lies between its bounds
pub data Reaches (blocks : List Block) (elems : List Shape) (structs : List StructShape) (own : Shape) (nullterm : Bool) (low high v : ℤ) :
    Type 0 where
  nowhere : v ≡ pos 0 → Reaches blocks elems structs own nullterm low high v
  into_text : nullterm ≡ true → IsInText blocks v → Reaches blocks elems structs own nullterm low high v
  between : nullterm ≡ false → IsBetween blocks elems structs own low high v → Reaches blocks elems structs own nullterm low high v
