-- Which values fit a type (Deputy, ESOP 2007): a pointer is null, or points into text, or lies within its bounds in one granted block, whose whole elements from
-- the low bound on are places of the element's type of which no annotation, no tag and no union speaks. And which bytes hold values that fit.
use Rattle.std.specs.Prelude.{◌≡◌, ℕ, ◌+◌, ◌-◌, ◌*◌, ◌<◌, ◌≤◌, Bool, true, false, not, ◌&&◌, ◌==◌, List, All, ℤ, pos, Option, Some, None, is_none, option_map, unwrap_or, slice_get, slice_index_or}
use Rattle.std.specs.List.{list_any, Contains}
use Rattle.std.specs.Ordering.{int_eq}
use Rattle.sd_base.specs.Blocks.{Block, block_end}
use Rattle.byte_memory.specs.Bytes.{little_endian, bytes_at}
use Rattle.checked_tree.specs.declared.shapes.Bounds.{Bounds}
use Rattle.checked_tree.specs.declared.shapes.Bounds.TheVariants as bounds
use Rattle.checked_tree.specs.declared.shapes.Member.{Member}
use Rattle.checked_tree.specs.declared.shapes.Shape.{Shape}
use Rattle.checked_tree.specs.declared.shapes.Shape.TheVariants as shape
use Rattle.checked_tree.specs.declared.shapes.StructShape.{StructShape}
use Rattle.checked_tree.specs.Edges.{edge_value}
use Rattle.checked_tree.specs.Numbers.{converted, scalar_size}
use Rattle.deputy_types.specs.StructLaws.{IsMultiple}
use Rattle.deputy_types.specs.Table.{has_names, shape_names}

-- the bytes of what has this shape
abbrev pub shape_size : List StructShape → Shape → ℕ
shape_size structs (shape.Int scalar) = scalar_size scalar
shape_size structs (shape.Pointer elem bounds) = 4
shape_size structs (shape.Struct s) = unwrap_or (option_map (λ t. t.size) (slice_get structs s)) 0
shape_size structs shape.Address = 4

-- ---- the parts of a place
-- the place itself, and the elements of those members of its structs that a test passes, by address and shape
pub data Part (structs : List StructShape) (passes : StructShape → ℕ → Member → Bool) (at : ℕ) (x : Shape) : ℕ → Shape → Type 0 where
  whole : {a : ℕ} {y : Shape} → a ≡ at → y ≡ x → Part structs passes at x a y
  member : {a : ℕ} {y : Shape} → (b s k j : ℕ) (t : StructShape) (m : Member) → Part structs passes at x b (shape.Struct s) → slice_get structs s ≡ Some t → slice_get t.members k ≡ Some m
      → passes t k m ≡ true → j < m.count → a ≡ b + m.offset + j * shape_size structs m.shape → y ≡ m.shape → Part structs passes at x a y

-- every member
abbrev pub is_any : StructShape → ℕ → Member → Bool
is_any t k m = true

-- a member that is no arm and no tag, has no names in its annotation, and is named by none
abbrev pub is_open : StructShape → ℕ → Member → Bool
is_open t k m = is_none m.arm && (not (list_any (λ u. u.tag == k) t.unions) && (not (has_names m.shape) && not (list_any (λ x. shape_names k x.shape) t.members)))

-- ---- values
-- a place of the type of the element with this number, in a block, of which no annotation, no tag and no union speaks
pub record IsOpenPlace (elems : List Shape) (structs : List StructShape) (block : Block) (elem at : ℕ) : Type 0 where
  pub shape : Shape
  pub is : slice_get elems elem ≡ Some shape
  pub element : Shape
  pub element_is : slice_get elems block.layout.elem ≡ Some element
  pub place : ℕ
  pub within : place < block.count
  pub part : Part structs is_open (block.base + place * block.layout.size) element at shape

-- the bytes of the element with this number
abbrev pub elem_bytes : List Shape → List StructShape → ℕ → ℕ
elem_bytes elems structs elem = unwrap_or (option_map (shape_size structs) (slice_get elems elem)) 0

-- a block of text with a byte at this address
pub record IsInText (blocks : List Block) (v : ℤ) : Type 0 where
  pub block : Block
  pub granted : Contains blocks block
  pub text : block.layout.nullterm ≡ true
  pub at : ℕ
  pub is : v ≡ pos at
  pub from : block.base ≤ at
  pub below : at < block_end block

-- a value between two bounds in one block, whole elements past the low one
pub record IsBounded (blocks : List Block) (elems : List Shape) (structs : List StructShape) (elem : ℕ) (low high v : ℤ) : Type 0 where
  pub block : Block
  pub granted : Contains blocks block
  pub no_text : block.layout.nullterm ≡ false
  pub from : ℕ
  pub from_is : low ≡ pos from
  pub to : ℕ
  pub to_is : high ≡ pos to
  pub at : ℕ
  pub at_is : v ≡ pos at
  pub above : from ≤ at
  pub below : at ≤ to
  pub whole : IsMultiple (elem_bytes elems structs elem) (at - from)
  pub from_in : block.base ≤ from
  pub to_in : to ≤ block_end block
  pub elements : (i : ℕ) → from + (i + 1) * elem_bytes elems structs elem ≤ to → IsOpenPlace elems structs block elem (from + i * elem_bytes elems structs elem)

-- a value that fits a pointer to the element with this number, with these bounds
pub data Fits (blocks : List Block) (elems : List Shape) (structs : List StructShape) (elem : ℕ) (nullterm : Bool) (low high v : ℤ) : Type 0 where
  null : v ≡ pos 0 → Fits blocks elems structs elem nullterm low high v
  in_text : nullterm ≡ true → IsInText blocks v → Fits blocks elems structs elem nullterm low high v
  in_bounds : nullterm ≡ false → IsBounded blocks elems structs elem low high v → Fits blocks elems structs elem nullterm low high v

-- ---- bytes
-- the number that a place holds; a struct holds none
abbrev pub place_value : List ℕ → ℕ → Shape → ℤ
place_value bytes at (shape.Int scalar) = converted scalar (pos (little_endian (bytes_at bytes at (scalar_size scalar))))
place_value bytes at (shape.Pointer elem bounds) = pos (little_endian (bytes_at bytes at 4))
place_value bytes at (shape.Struct s) = pos 0
place_value bytes at shape.Address = pos (little_endian (bytes_at bytes at 4))

-- the value of a member of the struct place at an address
abbrev pub member_value : List ℕ → ℕ → StructShape → ℕ → ℤ
member_value bytes at t k = unwrap_or (option_map (λ m. place_value bytes (at + m.offset) m.shape) (slice_get t.members k)) (pos 0)

-- a value that fits a pointer with these bounds, where its siblings have values
abbrev pub FitsBounds : List Block → List Shape → List StructShape → (ℕ → ℤ) → ℕ → Bounds → ℤ → Type 0
FitsBounds blocks elems structs sibling elem bounds.Hidden v = Unit {0}
FitsBounds blocks elems structs sibling elem bounds.Nullterm v = Fits blocks elems structs elem true (pos 0) (pos 0) v
FitsBounds blocks elems structs sibling elem (bounds.Within lo hi) v = Fits blocks elems structs elem false (edge_value sibling v lo) (edge_value sibling v hi) v

-- a place that holds a value that fits its shape, or is a struct
abbrev pub HoldsFitting : List Block → List Shape → List StructShape → (ℕ → ℤ) → List ℕ → ℕ → Shape → Type 0
HoldsFitting blocks elems structs sibling bytes at (shape.Pointer elem bounds) = FitsBounds blocks elems structs sibling elem bounds (place_value bytes at (shape.Pointer elem bounds))
HoldsFitting blocks elems structs sibling bytes at _ = Unit {0}

-- a member that is used: no arm, or the arm for the value of its union's tag
abbrev pub is_used : List ℕ → ℕ → StructShape → Option (ℕ × ℤ) → Bool
is_used bytes at t None = true
is_used bytes at t (Some arm) = int_eq (member_value bytes at t (unwrap_or (option_map (λ u. u.tag) (slice_get t.unions arm.0)) 0)) arm.1

-- the bytes from an address on hold values that fit this shape: the place itself, and each used member of its structs, with names read in the same struct
pub record BytesFit (blocks : List Block) (elems : List Shape) (structs : List StructShape) (bytes : List ℕ) (at : ℕ) (x : Shape) : Type 0 where
  pub whole : HoldsFitting blocks elems structs (λ k. pos 0) bytes at x
  pub members : (b s k j : ℕ) (t : StructShape) (m : Member) → Part structs is_any at x b (shape.Struct s) → slice_get structs s ≡ Some t → slice_get t.members k ≡ Some m
      → is_used bytes b t m.arm ≡ true → j < m.count → HoldsFitting blocks elems structs (member_value bytes b t) bytes (b + m.offset + j * shape_size structs m.shape) m.shape

-- so many bytes from an address on are 0
abbrev pub AreZero : List ℕ → ℕ → ℕ → Type 0
AreZero bytes at n = (i : ℕ) → i < n → slice_index_or bytes (at + i) 0 ≡ 0

-- structs whose members lie within them
abbrev pub AreNested : List StructShape → Type 0
AreNested structs = (s : ℕ) (t : StructShape) → slice_get structs s ≡ Some t → All (λ m. m.offset + m.count * shape_size structs m.shape ≤ t.size) t.members
