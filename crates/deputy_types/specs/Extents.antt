-- Sizes and alignments (the data layout of C99, 6.2.8, with natural alignment).
use Rattle.std.specs.Prelude.{ℕ, ◌≤◌, ◌≢◌, ◌+◌, ◌-◌, ◌*◌, ◌/◌, max, List, [], ◌∷◌, option_map, unwrap_or, slice_get}
use Rattle.c_tree.specs.declared.types.Star.{Star}
use Rattle.c_tree.specs.declared.types.TypeName.{TypeName}
use Rattle.checked_tree.specs.declared.shapes.Scalar.{Scalar}
use Rattle.checked_tree.specs.declared.shapes.Scalar.TheVariants as scalar
use Rattle.deputy_types.specs.declared.element.Element.{Element}
use Rattle.deputy_types.specs.declared.element.Element.TheVariants as element
use Rattle.deputy_types.specs.declared.extent.Extent.{Extent}
use Rattle.deputy_types.specs.declared.types.Types.{Types}
use Rattle.deputy_types.specs.Types.{base_key}

-- a type whose alignment is its size
abbrev pub natural : ℕ → Extent
natural n = record { bytes = n; align = n }

-- what is not there has no bytes
abbrev pub no_extent : Extent
no_extent = record { bytes = 0; align = 1 }

-- the extent of a number
abbrev pub scalar_extent : Scalar → Extent
scalar_extent scalar.Void = no_extent
scalar_extent scalar.U8 = natural 1
scalar_extent scalar.I8 = natural 1
scalar_extent scalar.U16 = natural 2
scalar_extent scalar.I16 = natural 2
scalar_extent scalar.I32 = natural 4
scalar_extent scalar.U32 = natural 4
scalar_extent (scalar.Pointer size) = natural 4

-- the extent of a struct
abbrev pub struct_extent : List Extent → ℕ → Extent
struct_extent extents s = unwrap_or (slice_get extents s) no_extent

-- the extent of a type, from those of the structs
abbrev pub key_extent : List Extent → Element → Extent
key_extent extents (element.Int scalar) = scalar_extent scalar
key_extent extents (element.Struct s) = struct_extent extents s
key_extent extents (element.Sentinel n) = natural 4
key_extent extents (element.Nullterm n) = natural 4
key_extent extents (element.Count n k) = natural 4

-- the extent of the type behind these stars: of a pointer, where there are any
abbrev pub stars_extent : Extent → List Star → Extent
stars_extent extent [] = extent
stars_extent extent (star ∷ stars) = natural 4

-- the extent of the type that a type name begins with
abbrev pub base_extent : Types → List Extent → TypeName → Extent
base_extent types extents t = unwrap_or (option_map (key_extent extents) (base_key types.structs t.base)) no_extent

-- the extent of what a type name declares
unfoldable pub type_extent : Types → List Extent → TypeName → Extent
type_extent types extents t = stars_extent (base_extent types extents t) t.stars

-- the extent that a type has of its own, as an arm of a union: a number or a pointer has one, a struct has none
abbrev pub own_extent : Element → Extent
own_extent (element.Int scalar) = scalar_extent scalar
own_extent (element.Struct s) = no_extent
own_extent (element.Sentinel n) = natural 4
own_extent (element.Nullterm n) = natural 4
own_extent (element.Count n k) = natural 4

-- the extent of a union's arm
unfoldable pub arm_extent : Types → TypeName → Extent
arm_extent types t = stars_extent (unwrap_or (option_map own_extent (base_key types.structs t.base)) no_extent) t.stars

-- the next multiple of an alignment
abbrev pub round_up_to : ℕ → ℕ → ℕ
round_up_to align n = (n + (align - 1)) / align * align

-- the room for the greater of two: each a union's arm
abbrev pub greater : Extent → Extent → Extent
greater a b = record { bytes = max a.bytes b.bytes; align = max a.align b.align }

-- an extent as structs, numbers and pointers have it: its alignment is 1, 2 or 4
pub record IsExtent (x : Extent) : Type 0 where
  pub bytes : x.bytes ≤ 65536
  pub least : 1 ≤ x.align
  pub greatest : x.align ≤ 4
  pub other : x.align ≢ 3

-- extents of structs by number
pub record AreExtents (extents : List Extent) : Type 0 where
  pub each : (s : ℕ) → IsExtent (struct_extent extents s)
