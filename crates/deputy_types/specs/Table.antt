-- The table of a text's types as the rules read it, and its look-ups.
use Rattle.std.specs.Prelude.{ℕ, ◌+◌, nat_lt, Bool, true, false, ◌||◌, ◌==◌, if◌then◌else◌, List, [], ◌∷◌, length, ℤ, Option, Some, None, is_some, option_map, slice_get, position, bytes_eq, unwrap_or}
use Rattle.std.specs.List.{list_any}
use Rattle.std.specs.Option.{option_flatten}
use Rattle.c_tree.specs.declared.types.TypeName.{TypeName}
use Rattle.checked_tree.specs.declared.shapes.Bounds.{Bounds}
use Rattle.checked_tree.specs.declared.shapes.Bounds.TheVariants as bounds
use Rattle.checked_tree.specs.declared.shapes.Edge.{Edge}
use Rattle.checked_tree.specs.declared.shapes.Member.{Member}
use Rattle.checked_tree.specs.declared.shapes.Shape.{Shape}
use Rattle.checked_tree.specs.declared.shapes.Shape.TheVariants as shape
use Rattle.checked_tree.specs.declared.shapes.StructShape.{StructShape}
use Rattle.checked_tree.specs.declared.shapes.UnionShape.{UnionShape}
use Rattle.checked_tree.specs.declared.units.ImageBlock.{ImageBlock}
use Rattle.deputy_types.specs.Extents.{key_extent, stars_extent}
use Rattle.deputy_types.specs.Options.{and_then}
use Rattle.deputy_types.specs.declared.element.Element.{Element}
use Rattle.deputy_types.specs.declared.extent.Extent.{Extent}
use Rattle.deputy_types.specs.declared.struct_names.StructNames.{StructNames}
use Rattle.deputy_types.specs.declared.table.GlobalPlace.{GlobalPlace}
use Rattle.deputy_types.specs.Siblings.{member_number}
use Rattle.deputy_types.specs.declared.types.Types.{Types}
use Rattle.deputy_types.specs.Types.{struct_number, element_number, base_key, is_char, are_constant, type_key}

-- the table: structs, elements, blocks of the load image by number. The globals have the first blocks, the strings those behind
pub record Table : Type 0 where
  pub types : Types
  pub extents : List Extent
  pub elems : List Shape
  pub structs : List StructShape
  pub names : List StructNames
  pub image : List ImageBlock
  pub globals : List (List ℕ)
  pub arrays : List Bool
  pub literals : ℕ

-- the number of a struct
abbrev pub structure : Table → List ℕ → Option ℕ
structure t name = struct_number t.types.structs name

-- the number of a member of a struct that is no arm
unfoldable pub field : Table → ℕ → List ℕ → Option ℕ
field t s name = and_then (slice_get t.names s) (λ n. member_number n.members None name)

-- the number of a union of a struct
unfoldable pub union_of : Table → ℕ → List ℕ → Option ℕ
union_of t s name = and_then (slice_get t.names s) (λ n. position (bytes_eq name) n.unions)

-- the number of the member that is this arm of a union
unfoldable pub arm : Table → ℕ → ℕ → List ℕ → Option ℕ
arm t s u name = and_then (slice_get t.names s) (λ n. member_number n.members (Some u) name)

-- the block of a global, and whether it is an array
unfoldable pub global : Table → List ℕ → Option GlobalPlace
global t name = and_then (position (bytes_eq name) t.globals)
    (λ k. option_map (λ array. record { block = k; array = array }) (slice_get t.arrays k))

-- the block of the k-th string
unfoldable pub literal : Table → ℕ → Option ℕ
literal t k = if nat_lt k t.literals then Some (length t.globals + k) else None

-- the number of a type in the list of elements
unfoldable pub elem : Table → TypeName → Option ℕ
elem t name = and_then (type_key t.types name) (λ key. element_number t.types.elements key)

-- the bytes of the element with this number
unfoldable pub elem_size : List Element → List Extent → ℕ → Option ℕ
elem_size elements extents n = option_map (λ key. (key_extent extents key).bytes) (slice_get elements n)

abbrev pub size_of_elem : Table → ℕ → Option ℕ
size_of_elem t n = elem_size t.types.elements t.extents n

-- the shape of the element with this number
abbrev pub shape_of_elem : Table → ℕ → Option Shape
shape_of_elem t n = slice_get t.elems n

-- the bytes of the type that a type name with constant annotations names
unfoldable pub size : Table → TypeName → Option ℕ
size t name = and_then (base_key t.types.structs name.base)
    (λ key. if are_constant (is_char key) name.stars then Some (stars_extent (key_extent t.extents key) name.stars).bytes else None)

-- the members of a struct; none that is not there
abbrev pub members_of : Table → ℕ → List Member
members_of t s = unwrap_or (option_map (λ x. x.members) (slice_get t.structs s)) []

-- a member of a struct, its shape, and its offset
abbrev pub member : Table → ℕ → ℕ → Option Member
member t s m = slice_get (members_of t s) m

abbrev pub member_shape : Table → ℕ → ℕ → Option Shape
member_shape t s m = option_map (λ x. x.shape) (member t s m)

unfoldable pub offset : Table → ℕ → ℕ → Option ℕ
offset t s m = option_map (λ x. x.offset) (member t s m)

-- a union of a struct
abbrev pub union_shape : Table → ℕ → ℕ → Option UnionShape
union_shape t s u = and_then (slice_get t.structs s) (λ x. slice_get x.unions u)

-- a member that is an array
unfoldable pub is_array : Table → ℕ → ℕ → Bool
is_array t s m = unwrap_or (and_then (slice_get t.names s) (λ n. slice_get n.arrays m)) false

-- the type of a member, of an array that of an element, where its annotation is constant
unfoldable pub member_key : Table → ℕ → ℕ → Option Element
member_key t s m = and_then (slice_get t.names s) (λ n. option_flatten (slice_get n.keys m))

-- the type of the element with this number
unfoldable pub element_at : Table → ℕ → Option Element
element_at t n = slice_get t.types.elements n

-- a member whose value says which arm of a union is used
unfoldable pub is_tag : Table → ℕ → ℕ → Bool
is_tag t s m = list_any (λ u. u.tag == m) (unwrap_or (option_map (λ x. x.unions) (slice_get t.structs s)) [])

-- a side that begins at a sibling
abbrev pub is_base : ℕ → Option ℕ → Bool
is_base k None = false
is_base k (Some b) = b == k

-- a side of a pointer's bounds that names a sibling
abbrev pub edge_names : ℕ → Edge → Bool
edge_names k e = is_base k e.base || list_any (λ x. x.1 == k) e.terms

-- bounds, and a shape, that name a sibling
abbrev pub bounds_name : ℕ → Bounds → Bool
bounds_name k (bounds.Within lo hi) = edge_names k lo || edge_names k hi
bounds_name k _ = false

unfoldable pub shape_names : ℕ → Shape → Bool
shape_names k (shape.Pointer elem bounds) = bounds_name k bounds
shape_names k _ = false

-- a member that an annotation of its struct names
unfoldable pub is_named : Table → ℕ → ℕ → Bool
is_named t s m = list_any (λ x. shape_names m x.shape) (members_of t s)

-- a side of a pointer's bounds, bounds, and a shape, that name any sibling
abbrev pub has_terms : List (ℤ × ℕ) → Bool
has_terms [] = false
has_terms (t ∷ ts) = true

abbrev pub edge_has_names : Edge → Bool
edge_has_names e = is_some e.base || has_terms e.terms

abbrev pub bounds_have_names : Bounds → Bool
bounds_have_names (bounds.Within lo hi) = edge_has_names lo || edge_has_names hi
bounds_have_names _ = false

unfoldable pub has_names : Shape → Bool
has_names (shape.Pointer elem bounds) = bounds_have_names bounds
has_names _ = false
