-- Declared types: the shape of what a type name declares, with the bounds that its annotation gives (Deputy, ESOP 2007).
use Rattle.std.specs.Prelude.{ℕ, Bool, true, false, not, ◌&&◌, ◌==◌, if◌then◌else◌, List, [], ◌∷◌, ◌++◌, ℤ, pos, ◌+ℤ◌, ◌*ℤ◌, neg_ℤ, ◌^◌, Option, Some, None, option_map}
use Rattle.c_tree.specs.declared.types.Addr.{Addr}
use Rattle.c_tree.specs.declared.types.Annotation.{Annotation}
use Rattle.c_tree.specs.declared.types.Annotation.TheVariants as annotation
use Rattle.c_tree.specs.declared.types.SignedTerm.{SignedTerm}
use Rattle.c_tree.specs.declared.types.Star.{Star}
use Rattle.c_tree.specs.declared.types.Term.{Term}
use Rattle.c_tree.specs.declared.types.Term.TheVariants as term
use Rattle.c_tree.specs.declared.types.TypeName.{TypeName}
use Rattle.checked_tree.specs.declared.shapes.Bounds.{Bounds}
use Rattle.checked_tree.specs.declared.shapes.Bounds.TheVariants as bounds
use Rattle.checked_tree.specs.declared.shapes.Edge.{Edge}
use Rattle.checked_tree.specs.declared.shapes.Shape.{Shape}
use Rattle.checked_tree.specs.declared.shapes.Shape.TheVariants as shape
use Rattle.checked_tree.specs.Numbers.{is_between}
use Rattle.deputy_types.specs.Extents.{key_extent}
use Rattle.deputy_types.specs.Options.{and_then}
use Rattle.deputy_types.specs.declared.element.Element.{Element}
use Rattle.deputy_types.specs.declared.element.Element.TheVariants as element
use Rattle.deputy_types.specs.declared.extent.Extent.{Extent}
use Rattle.deputy_types.specs.declared.sibling.Role.{Role}
use Rattle.deputy_types.specs.declared.sibling.Role.TheVariants as role
use Rattle.deputy_types.specs.declared.sibling.Unannotated.{Unannotated}
use Rattle.deputy_types.specs.declared.sibling.Unannotated.TheVariants as unannotated
use Rattle.deputy_types.specs.declared.siblings.Siblings.{Siblings}
use Rattle.deputy_types.specs.Siblings.{sibling_number, role_of}
use Rattle.deputy_types.specs.Table.{Table}
use Rattle.deputy_types.specs.declared.types.Types.{Types}
use Rattle.deputy_types.specs.Types.{element_number, signed_number, is_char, pointed_key, last_star}

-- the pointer itself
abbrev pub own : Edge
own = record { base = None; terms = []; bytes = pos 0 }

-- a number of elements of this size
abbrev pub in_bytes : ℕ → ℤ → ℤ
in_bytes size n = n *ℤ pos size

-- a sum of at most 1,000 numbers below 2^32 of elements of at most 65,536 bytes: each constant that a text has between two signs is one
abbrev pub is_small : ℤ → Bool
is_small z = is_between (neg_ℤ (pos (2 ^ 60))) (pos (2 ^ 60)) z

abbrev pub if_small : ℤ → Option ℤ
if_small z = if is_small z then Some z else None

-- a side with this constant
abbrev pub with_bytes : Edge → ℤ → Edge
with_bytes e bytes = record { base = e.base; terms = e.terms; bytes = bytes }

-- so many more elements of this size
unfoldable pub with_number : ℕ → Edge → ℤ → Option Edge
with_number size e n = option_map (with_bytes e) (if_small (e.bytes +ℤ in_bytes size n))

-- a sibling times a number of elements of this size more
unfoldable pub with_term : ℕ → Edge → ℤ → ℕ → Edge
with_term size e times k = record { base = e.base; terms = e.terms ++ (in_bytes size times, k) ∷ []; bytes = e.bytes }

-- the number of a sibling that is a number of elements
abbrev pub integer_at : ℕ → Role → Option ℕ
integer_at k role.Integer = Some k
integer_at k role.Tag = None
integer_at k (role.Pointer n) = None
integer_at k role.Other = None

-- the number of a sibling, where it is a number of elements
unfoldable pub integer_number : Siblings → List ℕ → Option ℕ
integer_number siblings name = and_then (sibling_number siblings name) (λ k. and_then (role_of siblings k) (λ r. integer_at k r))

-- the number of a sibling that is another pointer to such elements than the one at `place`
abbrev pub pointer_at : ℕ → ℕ → ℕ → Role → Option ℕ
pointer_at place elem k role.Integer = None
pointer_at place elem k role.Tag = None
pointer_at place elem k (role.Pointer n) = if (n == elem) && not (k == place) then Some k else None
pointer_at place elem k role.Other = None

-- the number of a sibling, where it is another pointer to such elements than the one at `place`
unfoldable pub pointer_number : Siblings → ℕ → ℕ → List ℕ → Option ℕ
pointer_number siblings place elem name = and_then (sibling_number siblings name) (λ k. and_then (role_of siblings k) (λ r. pointer_at place elem k r))

-- a side with a number times the sibling of this name more
abbrev pub edge_named : ℕ → Siblings → Edge → ℤ → List ℕ → Option Edge
edge_named size siblings e times name = option_map (λ k. with_term size e times k) (integer_number siblings name)

-- a side with one more term, with `-` before it or not
abbrev pub edge_with : ℕ → Siblings → Edge → Bool → Term → Option Edge
edge_with size siblings e negative (term.Number n) = with_number size e (signed_number negative n.value)
edge_with size siblings e negative (term.Name x) = edge_named size siblings e (signed_number negative 1) x
edge_with size siblings e negative (term.Product n x) = edge_named size siblings e (signed_number negative n.value) x

-- a side with one more term
unfoldable pub edge_term : ℕ → Siblings → Edge → SignedTerm → Option Edge
edge_term size siblings e t = edge_with size siblings e t.negative t.term

-- a side with more terms
abbrev pub edge_terms : ℕ → Siblings → Edge → List SignedTerm → Option Edge
edge_terms size siblings e [] = Some e
edge_terms size siblings e (t ∷ ts) = and_then (edge_term size siblings e t) (λ more. edge_terms size siblings more ts)

-- a side with a term, where there is one
abbrev pub edge_offset : ℕ → Siblings → Edge → Option SignedTerm → Option Edge
edge_offset size siblings e None = Some e
edge_offset size siblings e (Some t) = edge_term size siblings e t

-- the end of a `bound`: a sibling pointer, and a term
unfoldable pub bound_end : ℕ → Siblings → ℕ → ℕ → Addr → Option Edge
bound_end size siblings place elem a = and_then (pointer_number siblings place elem a.pointer)
    (λ k. edge_offset size siblings (record { base = Some k; terms = []; bytes = pos 0 }) a.offset)

-- from the pointer itself up to so many elements
abbrev pub up_to : ℕ → ℤ → Bounds
up_to size n = bounds.Within own (with_bytes own (in_bytes size n))

-- both ends of a `bound`
unfoldable pub both_ends : ℕ → Siblings → ℕ → ℕ → Addr → Addr → Option Bounds
both_ends size siblings place elem lo hi = and_then (bound_end size siblings place elem lo)
    (λ low. option_map (λ high. bounds.Within low high) (bound_end size siblings place elem hi))

-- the bounds of a pointer without annotation
abbrev pub default_bounds : ℕ → Unannotated → Bounds
default_bounds size unannotated.Safe = up_to size (pos 1)
default_bounds size unannotated.Hidden = bounds.Hidden

-- the bounds of a `count`
abbrev pub counted_bounds : ℕ → Siblings → List SignedTerm → Option Bounds
counted_bounds size siblings terms = option_map (λ hi. bounds.Within own hi) (edge_terms size siblings own terms)

-- the bounds that an annotation gives a pointer to elements with this size, number and type. The pointer is the sibling at `place`
unfoldable pub annotated_bounds : ℕ → Siblings → ℕ → ℕ → Element → Annotation → Option Bounds
annotated_bounds size siblings place elem key annotation.Safe = Some (up_to size (pos 1))
annotated_bounds size siblings place elem key annotation.Sentinel = Some (up_to size (pos 0))
annotated_bounds size siblings place elem key annotation.Nullterm = if is_char key then Some bounds.Nullterm else None
annotated_bounds size siblings place elem key (annotation.Count sum) = counted_bounds size siblings sum.terms
annotated_bounds size siblings place elem key (annotation.Bound lo hi) = both_ends size siblings place elem lo hi

-- the bounds of a pointer with this star
abbrev pub star_bounds : ℕ → Unannotated → Siblings → ℕ → ℕ → Element → Option Annotation → Option Bounds
star_bounds size plain siblings place elem key None = Some (default_bounds size plain)
star_bounds size plain siblings place elem key (Some note) = annotated_bounds size siblings place elem key note

-- the shape of an integer or a struct
abbrev pub plain_shape : Element → Option Shape
plain_shape (element.Int scalar) = Some (shape.Int scalar)
plain_shape (element.Struct s) = Some (shape.Struct s)
plain_shape (element.Sentinel n) = None
plain_shape (element.Nullterm n) = None
plain_shape (element.Count n k) = None

-- the shape of a pointer with this last star to elements with this size, number and type
abbrev pub pointer_to : ℕ → Unannotated → Siblings → ℕ → ℕ → Element → Star → Option Shape
pointer_to size plain siblings place elem key star = option_map (λ b. shape.Pointer elem b) (star_bounds size plain siblings place elem key star.annotation)

-- the shape of a pointer to the type `key` with this last star
unfoldable pub pointer_shape : List Element → List Extent → Unannotated → Siblings → ℕ → Element → Star → Option Shape
pointer_shape elements extents plain siblings place key star = and_then (element_number elements key)
    (λ elem. pointer_to (key_extent extents key).bytes plain siblings place elem key star)

-- the shape of what this last star, if there is one, makes of the type `key`
abbrev pub shape_behind : List Element → List Extent → Unannotated → Siblings → ℕ → Element → Option Star → Option Shape
shape_behind elements extents plain siblings place key None = plain_shape key
shape_behind elements extents plain siblings place key (Some star) = pointer_shape elements extents plain siblings place key star

-- the shape that a type name declares for the sibling at `place`, from the extents of the structs
unfoldable pub typed_shape : Types → List Extent → Unannotated → Siblings → ℕ → TypeName → Option Shape
typed_shape types extents plain siblings place t = and_then (pointed_key types t)
    (λ key. shape_behind types.elements extents plain siblings place key (last_star t.stars))

-- the shape that a type name declares for the sibling at `place`. A declaration with constant annotations alone has no siblings
abbrev pub declared_shape : Table → Unannotated → Siblings → ℕ → TypeName → Option Shape
declared_shape t plain siblings place name = typed_shape t.types t.extents plain siblings place name

-- what an annotation can make of a value of the type `key`, a tag or not
abbrev pub plain_role : Bool → Element → Role
plain_role tag (element.Int scalar) = if tag then role.Tag else role.Integer
plain_role tag (element.Struct s) = role.Other
plain_role tag (element.Sentinel n) = role.Other
plain_role tag (element.Nullterm n) = role.Other
plain_role tag (element.Count n k) = role.Other

-- whether a star makes a pointer to text
abbrev pub is_text : Option Annotation → Bool
is_text (Some annotation.Nullterm) = true
is_text _ = false

-- what an annotation can make of a pointer to elements with this number
abbrev pub numbered_role : Option ℕ → Role
numbered_role None = role.Other
numbered_role (Some n) = role.Pointer n

-- what an annotation can make of a pointer to the type `key` with this last star
abbrev pub pointer_role : List Element → Element → Star → Role
pointer_role elements key star = if is_text star.annotation then role.Other else numbered_role (element_number elements key)

-- what an annotation can make of a pointer to the type `key` with this last star, or of a value of it where there is none
abbrev pub role_behind : List Element → Bool → Element → Option Star → Role
role_behind elements tag key None = plain_role tag key
role_behind elements tag key (Some star) = pointer_role elements key star

-- what an annotation can make of what a type name declares
abbrev pub role_by : Types → Bool → TypeName → Option Element → Role
role_by types tag t None = role.Other
role_by types tag t (Some key) = role_behind types.elements tag key (last_star t.stars)

-- what an annotation can make of a declaration: an array or not, a tag or not
unfoldable pub declared_role : Types → Bool → Bool → TypeName → Role
declared_role types array tag t = if array then role.Other else role_by types tag t (pointed_key types t)
