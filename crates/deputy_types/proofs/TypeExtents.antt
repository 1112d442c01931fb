-- The extent of each type is one that numbers, pointers and structs have, where those of the structs are.
use Rattle.std.proofs.Common.{◌≢◌, ℕ, ◌≤◌, max, List, [], ◌∷◌, Option, Some, None, option_map, unwrap_or, arith}
use Rattle.c_tree.specs.declared.items.Arm.{Arm}
use Rattle.c_tree.specs.declared.types.Star.{Star}
use Rattle.c_tree.specs.declared.types.TypeName.{TypeName}
use Rattle.checked_tree.specs.declared.shapes.Scalar.{Scalar}
use Rattle.checked_tree.specs.declared.shapes.Scalar.TheVariants as scalar
use Rattle.deputy_types.specs.declared.element.Element.{Element}
use Rattle.deputy_types.specs.declared.element.Element.TheVariants as element
use Rattle.deputy_types.specs.declared.extent.Extent.{Extent}
use Rattle.deputy_types.specs.declared.types.Types.{Types}
use Rattle.deputy_types.specs.Extents.{IsExtent, AreExtents, natural, no_extent, scalar_extent, key_extent, own_extent, stars_extent, type_extent, arm_extent, greater}
use Rattle.deputy_types.specs.StructLayout.{arms_extent, union_extent}
use Rattle.deputy_types.specs.Types.{base_key}

pub natural_is_extent : (n : ℕ) → n ≤ 4 → 1 ≤ n → n ≢ 3 → IsExtent (natural n)
natural_is_extent n a b c = record { bytes = omega arith; least = b; greatest = a; other = c }

pub no_extent_is : IsExtent no_extent
no_extent_is = record { bytes = omega arith; least = omega arith; greatest = omega arith; other = omega arith }

pub scalar_is_extent : (s : Scalar) → IsExtent (scalar_extent s)
scalar_is_extent scalar.Void = no_extent_is
scalar_is_extent scalar.U8 = natural_is_extent 1 (omega arith) (omega arith) (omega arith)
scalar_is_extent scalar.I8 = natural_is_extent 1 (omega arith) (omega arith) (omega arith)
scalar_is_extent scalar.U16 = natural_is_extent 2 (omega arith) (omega arith) (omega arith)
scalar_is_extent scalar.I16 = natural_is_extent 2 (omega arith) (omega arith) (omega arith)
scalar_is_extent scalar.I32 = natural_is_extent 4 (omega arith) (omega arith) (omega arith)
scalar_is_extent scalar.U32 = natural_is_extent 4 (omega arith) (omega arith) (omega arith)
scalar_is_extent (scalar.Pointer n) = natural_is_extent 4 (omega arith) (omega arith) (omega arith)

pub key_is_extent : (extents : List Extent) (key : Element) → AreExtents extents → IsExtent (key_extent extents key)
key_is_extent extents (element.Int s) h = scalar_is_extent s
key_is_extent extents (element.Struct s) h = h.each s
key_is_extent extents (element.Sentinel n) h = natural_is_extent 4 (omega arith) (omega arith) (omega arith)
key_is_extent extents (element.Nullterm n) h = natural_is_extent 4 (omega arith) (omega arith) (omega arith)
key_is_extent extents (element.Count n k) h = natural_is_extent 4 (omega arith) (omega arith) (omega arith)

pub own_is_extent : (key : Element) → IsExtent (own_extent key)
own_is_extent (element.Int s) = scalar_is_extent s
own_is_extent (element.Struct s) = no_extent_is
own_is_extent (element.Sentinel n) = natural_is_extent 4 (omega arith) (omega arith) (omega arith)
own_is_extent (element.Nullterm n) = natural_is_extent 4 (omega arith) (omega arith) (omega arith)
own_is_extent (element.Count n k) = natural_is_extent 4 (omega arith) (omega arith) (omega arith)

pub base_is_extent : (extents : List Extent) (base : Option Element) → AreExtents extents → IsExtent (unwrap_or (option_map (key_extent extents) base) no_extent)
base_is_extent extents None h = no_extent_is
base_is_extent extents (Some key) h = key_is_extent extents key h

pub stars_is_extent : (extent : Extent) (stars : List Star) → IsExtent extent → IsExtent (stars_extent extent stars)
stars_is_extent extent [] h = h
stars_is_extent extent (s ∷ ss) h = natural_is_extent 4 (omega arith) (omega arith) (omega arith)

pub type_is_extent : (types : Types) (extents : List Extent) (t : TypeName) → AreExtents extents → IsExtent (type_extent types extents t)
unfolding type_extent
type_is_extent types extents t h = stars_is_extent _ t.stars (base_is_extent extents (base_key types.structs t.base) h)

-- the alignment of a whole is that of its greatest part
pub record IsAlign (n : ℕ) : Type 0 where
  pub least : 1 ≤ n
  pub greatest : n ≤ 4
  pub other : n ≢ 3

pub align_of : (x : Extent) → IsExtent x → IsAlign x.align
align_of x h = record { least = h.least; greatest = h.greatest; other = h.other }

pub max_align : (a b : ℕ) → IsAlign a → IsAlign b → IsAlign (max a b)
max_align a b h k = record { least = omega (arith, h.least); greatest = omega (arith, h.greatest, k.greatest); other = omega (arith, h.other, k.other) }

pub greater_is_extent : (x y : Extent) → IsExtent x → IsExtent y → IsExtent (greater x y)
greater_is_extent x y h k =
    let align = max_align x.align y.align (align_of x h) (align_of y k) in
    record { bytes = omega (arith, h.bytes, k.bytes); least = align.least; greatest = align.greatest; other = align.other }

own_base : (base : Option Element) → IsExtent (unwrap_or (option_map own_extent base) no_extent)
own_base None = no_extent_is
own_base (Some key) = own_is_extent key

pub arm_is_extent : (types : Types) (t : TypeName) → IsExtent (arm_extent types t)
unfolding arm_extent
arm_is_extent types t = stars_is_extent _ t.stars (own_base (base_key types.structs t.base))

pub arms_is_extent : (types : Types) (x : Extent) (arms : List Arm) → IsExtent x → IsExtent (arms_extent types x arms)
arms_is_extent types x [] k = k
arms_is_extent types x (a ∷ arms) k =
    arms_is_extent types (greater x (arm_extent types a.type_name)) arms (greater_is_extent x (arm_extent types a.type_name) k (arm_is_extent types a.type_name))

pub one_byte_is : IsExtent (natural 1)
one_byte_is = natural_is_extent 1 (omega arith) (omega arith) (omega arith)

pub union_is_extent : (types : Types) (arms : List Arm) → IsExtent (union_extent types arms)
union_is_extent types arms = arms_is_extent types (natural 1) arms one_byte_is
