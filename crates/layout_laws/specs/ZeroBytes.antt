-- Zero bytes are valid at every type of a text: they fit it, whatever blocks are granted, since each pointer in them is null.
use Rattle.std.specs.Prelude.{◌≡◌, ℕ, ◌+◌, ◌*◌, ◌<◌, List, length, pos, Some, slice_get, Ok}
use Rattle.sd_base.specs.Blocks.{Block}
use Rattle.c_tree.specs.declared.items.Unit.{Unit as TextUnit}
use Rattle.checked_tree.specs.declared.shapes.Member.{Member}
use Rattle.checked_tree.specs.declared.shapes.Shape.{Shape}
use Rattle.checked_tree.specs.declared.shapes.Shape.TheVariants as shape
use Rattle.checked_tree.specs.declared.shapes.StructShape.{StructShape}
use Rattle.deputy_types.specs.Fitting.{shape_size, Part, is_any, place_value, AreZero, BytesFit}
use Rattle.deputy_types.specs.Table.{Table}
use Rattle.deputy_types.specs.UnitLayout.{layout}

-- each place that the bytes from an address on have of this shape holds 0: the place itself, and each member of its structs, an arm that no
-- tag selects included. A pointer that is 0 is null
pub record AreNull (structs : List StructShape) (bytes : List ℕ) (at : ℕ) (x : Shape) : Type 0 where
  pub whole : place_value bytes at x ≡ pos 0
  pub members : (b s k j : ℕ) (t : StructShape) (m : Member) → Part structs is_any at x b (shape.Struct s) → slice_get structs s ≡ Some t
      → slice_get t.members k ≡ Some m
      → j < m.count → place_value bytes (b + m.offset + j * shape_size structs m.shape) m.shape ≡ pos 0

-- so many zero bytes as a type has fit it, and all that they hold is 0
pub record IsValidZero (t : Table) (x : Shape) : Type 0 where
  pub fits : (blocks : List Block) (bytes : List ℕ) (at : ℕ) → AreZero bytes at (shape_size t.structs x)
      → BytesFit blocks t.elems t.structs bytes at x
  pub null : (bytes : List ℕ) (at : ℕ) → AreZero bytes at (shape_size t.structs x) → AreNull t.structs bytes at x

-- zero bytes are valid at each struct of a table, at each type of its elements, and at the type of each of its globals, which is one of
-- these
pub record HasValidZeros (t : Table) : Type 0 where
  pub structs : (s : ℕ) → s < length t.structs → IsValidZero t (shape.Struct s)
  pub elems : (n : ℕ) (x : Shape) → slice_get t.elems n ≡ Some x → IsValidZero t x

-- so in each table of a text
abbrev pub ZeroIsValid : Type 0
ZeroIsValid = (u : TextUnit) (t : Table) → layout u ≡ Ok t → HasValidZeros t
