-- The limits that a table keeps: at most 256 structs of at most 64 fields and 65,536 bytes, at most 1,024 globals and strings, at most
-- 4,096 functions.
use Rattle.std.specs.Prelude.{◌≡◌, ℕ, ◌≤◌, length, All, Some, slice_get, Ok}
use Rattle.c_tree.specs.declared.items.StructItem.{StructItem}
use Rattle.c_tree.specs.declared.items.Unit.{Unit as TextUnit}
use Rattle.checked_tree.specs.declared.shapes.StructShape.{StructShape}
use Rattle.deputy_types.specs.UnitLayout.{functions_of}
use Rattle.deputy_types.specs.Table.{Table}
use Rattle.deputy_types.specs.UnitLayout.{layout}
use Rattle.layout_laws.specs.StructTable.{struct_items}

-- a struct within the limits: its bytes, and its unions, each of which is one of its fields
pub record IsSmall (x : StructShape) : Type 0 where
  pub size : x.size ≤ 65536
  pub unions : length x.unions ≤ 64

-- a table within the limits, and the text that it is of
pub record IsWithinLimits (u : TextUnit) (t : Table) : Type 0 where
  pub structs : length t.structs ≤ 256
  pub each : All IsSmall t.structs
  pub fields : (k : ℕ) (s : StructItem) → slice_get (struct_items u.items) k ≡ Some s → length s.fields ≤ 64
  pub blocks : length t.image ≤ 1024
  pub functions : length (functions_of u.items) ≤ 4096

-- so is each table of a text
abbrev pub EachIsWithinLimits : Type 0
EachIsWithinLimits = (u : TextUnit) (t : Table) → layout u ≡ Ok t → IsWithinLimits u t
