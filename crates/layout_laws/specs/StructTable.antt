-- The structs of a text's table: as many as the text declares, in its order, each the layout of its own declaration with the extents of
-- all.
use Rattle.std.specs.Prelude.{◌≡◌, ℕ, List, [], ◌∷◌, length, Some, slice_get, Ok, IsOkAnd}
use Rattle.c_tree.specs.declared.items.Item.{Item}
use Rattle.c_tree.specs.declared.items.Item.TheVariants as item
use Rattle.c_tree.specs.declared.items.StructItem.{StructItem}
use Rattle.c_tree.specs.declared.items.Unit.{Unit as TextUnit}
use Rattle.checked_tree.specs.declared.shapes.StructShape.{StructShape}
use Rattle.deputy_types.specs.declared.extent.Extent.{Extent}
use Rattle.deputy_types.specs.declared.struct_names.StructNames.{StructNames}
use Rattle.deputy_types.specs.Fitting.{AreNested}
use Rattle.deputy_types.specs.StructLaws.{IsLaidOut}
use Rattle.deputy_types.specs.StructLayout.{struct_laid}
use Rattle.deputy_types.specs.Table.{Table}
use Rattle.deputy_types.specs.UnitLayout.{layout}

-- the structs that are declared among items, in text order
abbrev pub struct_items : List Item → List StructItem
struct_items [] = []
struct_items (item.Struct s ∷ xs) = s ∷ struct_items xs
struct_items (item.Global g ∷ xs) = struct_items xs
struct_items (item.Function f ∷ xs) = struct_items xs
struct_items (item.Prototype h ∷ xs) = struct_items xs

-- a table has this struct under this number: its shape, the names of its members and unions, and its extent
pub record HasStruct (t : Table) (number : ℕ) (x : StructShape) (n : StructNames) (room : Extent) : Type 0 where
  pub shape : slice_get t.structs number ≡ Some x
  pub names : slice_get t.names number ≡ Some n
  pub extent : slice_get t.extents number ≡ Some room

-- the struct with this number is the layout of this declaration with the extents of all structs of the table: each member lies at a
-- multiple of its alignment, behind those before it and within the struct
abbrev pub IsLaidAt : Table → ℕ → StructItem → Type 0
IsLaidAt t number s =
    IsOkAnd (struct_laid t.types t.extents number s)
    (λ laid. HasStruct t number laid.shape laid.names laid.extent × IsLaidOut t.extents laid)

-- a table has as many structs as these, each the layout of the declaration with its number
pub record HasStructs (t : Table) (items : List StructItem) : Type 0 where
  pub structs : length t.structs ≡ length items
  pub names : length t.names ≡ length items
  pub extents : length t.extents ≡ length items
  pub each : (number : ℕ) (s : StructItem) → slice_get items number ≡ Some s → IsLaidAt t number s

-- the structs of each table are those that its text declares
abbrev pub EachStructIsDeclared : Type 0
EachStructIsDeclared = (u : TextUnit) (t : Table) → layout u ≡ Ok t → HasStructs t (struct_items u.items)

-- the structs of each table lie within one another
abbrev pub StructsAreNested : Type 0
StructsAreNested = (u : TextUnit) (t : Table) → layout u ≡ Ok t → AreNested t.structs
