-- The types of a table's elements: `char` is the first, and each has the bytes of its shape.
use Rattle.std.specs.Prelude.{◌≡◌, ℕ, length, Some, slice_get, Ok}
use Rattle.c_tree.specs.declared.items.Unit.{Unit as TextUnit}
use Rattle.checked_tree.specs.declared.shapes.Scalar.TheVariants as scalar
use Rattle.checked_tree.specs.declared.shapes.Shape.{Shape}
use Rattle.checked_tree.specs.declared.shapes.Shape.TheVariants as shape
use Rattle.deputy_types.specs.Fitting.{shape_size}
use Rattle.deputy_types.specs.Table.{Table, size_of_elem}
use Rattle.deputy_types.specs.UnitLayout.{layout}

-- the elements of a table: as many shapes as types; the bytes that the rules look up for a number are those that values of its shape take
pub record HasElements (t : Table) : Type 0 where
  pub many : length t.elems ≡ length t.types.elements
  pub char : slice_get t.elems 0 ≡ Some (shape.Int scalar.U8)
  pub bytes : (n : ℕ) (x : Shape) → slice_get t.elems n ≡ Some x → size_of_elem t n ≡ Some (shape_size t.structs x)

-- so in each table of a text
abbrev pub EachHasElements : Type 0
EachHasElements = (u : TextUnit) (t : Table) → layout u ≡ Ok t → HasElements t
