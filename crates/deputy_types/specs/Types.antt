-- The types of a text as keys: equal types have equal keys, and a key's number is its place in the list of elements.
use Rattle.std.specs.Prelude.{ℕ, Bool, true, false, ◌&&◌, ◌==◌, ◌^◌, if◌then◌else◌, List, [], ◌∷◌, ℤ, pos, ◌+ℤ◌, neg_ℤ, Option, Some, None, is_some, option_map, position, bytes_eq, slice_get, take, length, ◌-◌}
use Rattle.std.specs.Ordering.{int_eq}
use Rattle.c_tree.specs.declared.types.Annotation.{Annotation}
use Rattle.c_tree.specs.declared.types.Annotation.TheVariants as annotation
use Rattle.c_tree.specs.declared.types.Base.{Base}
use Rattle.c_tree.specs.declared.types.Base.TheVariants as base
use Rattle.c_tree.specs.declared.types.SignedTerm.{SignedTerm}
use Rattle.c_tree.specs.declared.types.Star.{Star}
use Rattle.c_tree.specs.declared.types.Term.{Term}
use Rattle.c_tree.specs.declared.types.Term.TheVariants as term
use Rattle.c_tree.specs.declared.types.TypeName.{TypeName}
use Rattle.checked_tree.specs.declared.shapes.Scalar.{Scalar}
use Rattle.checked_tree.specs.declared.shapes.Scalar.TheVariants as scalar
use Rattle.checked_tree.specs.Numbers.{is_between}
use Rattle.deputy_types.specs.Options.{and_then}
use Rattle.deputy_types.specs.declared.element.Element.{Element}
use Rattle.deputy_types.specs.declared.element.Element.TheVariants as element
use Rattle.deputy_types.specs.declared.types.Types.{Types}

-- the number of a struct
abbrev pub struct_number : List (List ℕ) → List ℕ → Option ℕ
struct_number structs name = position (bytes_eq name) structs

-- the same integer type
abbrev pub same_scalar : Scalar → Scalar → Bool
same_scalar scalar.Void scalar.Void = true
same_scalar scalar.U8 scalar.U8 = true
same_scalar scalar.I8 scalar.I8 = true
same_scalar scalar.U16 scalar.U16 = true
same_scalar scalar.I16 scalar.I16 = true
same_scalar scalar.I32 scalar.I32 = true
same_scalar scalar.U32 scalar.U32 = true
same_scalar (scalar.Pointer n) (scalar.Pointer m) = n == m
same_scalar _ _ = false

-- the same type
abbrev pub same_element : Element → Element → Bool
same_element (element.Int a) (element.Int b) = same_scalar a b
same_element (element.Struct a) (element.Struct b) = a == b
same_element (element.Sentinel a) (element.Sentinel b) = a == b
same_element (element.Nullterm a) (element.Nullterm b) = a == b
same_element (element.Count a m) (element.Count b n) = (a == b) && int_eq m n
same_element _ _ = false

-- the number of an element
abbrev pub element_number : List Element → Element → Option ℕ
element_number elements key = position (same_element key) elements

-- the type that a base names; a struct has to be declared somewhere in the text
unfoldable pub base_key : List (List ℕ) → Base → Option Element
base_key structs base.Char = Some (element.Int scalar.U8)
base_key structs base.SignedChar = Some (element.Int scalar.I8)
base_key structs base.UnsignedChar = Some (element.Int scalar.U8)
base_key structs base.Short = Some (element.Int scalar.I16)
base_key structs base.UnsignedShort = Some (element.Int scalar.U16)
base_key structs base.Int = Some (element.Int scalar.I32)
base_key structs base.Long = Some (element.Int scalar.I32)
base_key structs base.Unsigned = Some (element.Int scalar.U32)
base_key structs base.UnsignedInt = Some (element.Int scalar.U32)
base_key structs base.UnsignedLong = Some (element.Int scalar.U32)
base_key structs (base.Struct name) = option_map (λ n. element.Struct n) (struct_number structs name)

-- a number with the sign before it
abbrev pub signed_number : Bool → ℕ → ℤ
signed_number negative n = if negative then neg_ℤ (pos n) else pos n

-- the value of a term without names, with `-` before it or not
abbrev pub number_of_term : Bool → Term → Option ℤ
number_of_term negative (term.Number n) = Some (signed_number negative n.value)
number_of_term negative (term.Name x) = None
number_of_term negative (term.Product n x) = None

-- the value of a term without names
unfoldable pub term_constant : SignedTerm → Option ℤ
term_constant t = number_of_term t.negative t.term

-- a sum of at most 1,000 numbers below 2^32: no sum that a text has between two signs passes this
abbrev pub is_count : ℤ → Bool
is_count z = is_between (neg_ℤ (pos (2 ^ 42))) (pos (2 ^ 42)) z

-- a number, where it is such a sum
abbrev pub if_count : ℤ → Option ℤ
if_count z = if is_count z then Some z else None

-- a sum with the value of one more term
unfoldable pub next_sum : ℤ → SignedTerm → Option ℤ
next_sum sum t = and_then (term_constant t) (λ n. if_count (sum +ℤ n))

-- a number more than the value of terms without names
abbrev pub constant_sum : ℤ → List SignedTerm → Option ℤ
constant_sum sum [] = Some sum
constant_sum sum (t ∷ ts) = and_then (next_sum sum t) (λ more. constant_sum more ts)

-- plain and unsigned char: what text is made of
abbrev pub is_char : Element → Bool
is_char (element.Int scalar.U8) = true
is_char _ = false

-- the type of a pointer to the element with number n and key `key`, where its annotation is constant
abbrev pub annotated_key : ℕ → Element → Annotation → Option Element
annotated_key n key annotation.Safe = Some (element.Count n (pos 1))
annotated_key n key annotation.Sentinel = Some (element.Sentinel n)
annotated_key n key annotation.Nullterm = if is_char key then Some (element.Nullterm n) else None
annotated_key n key (annotation.Count sum) = option_map (λ c. element.Count n c) (constant_sum (pos 0) sum.terms)
annotated_key n key (annotation.Bound lo hi) = None

-- the same, `safe` where there is no annotation
unfoldable pub pointer_key : ℕ → Element → Option Annotation → Option Element
pointer_key n key None = Some (element.Count n (pos 1))
pointer_key n key (Some note) = annotated_key n key note

-- the type behind a star
unfoldable pub star_key : List Element → Element → Star → Option Element
star_key elements key star = and_then (element_number elements key) (λ n. pointer_key n key star.annotation)

-- the type behind these stars
abbrev pub stars_key : List Element → Element → List Star → Option Element
stars_key elements key [] = Some key
stars_key elements key (star ∷ stars) = and_then (star_key elements key star) (λ k. stars_key elements k stars)

-- the type that a type name with constant annotations names
unfoldable pub type_key : Types → TypeName → Option Element
type_key types t = and_then (base_key types.structs t.base) (λ key. stars_key types.elements key t.stars)

-- an annotation without names that may stand on a pointer; `nullterm` on a pointer to text alone
abbrev pub is_constant : Bool → Option Annotation → Bool
is_constant char None = true
is_constant char (Some annotation.Safe) = true
is_constant char (Some annotation.Sentinel) = true
is_constant char (Some annotation.Nullterm) = char
is_constant char (Some (annotation.Count sum)) = is_some (constant_sum (pos 0) sum.terms)
is_constant char (Some (annotation.Bound lo hi)) = false

-- such annotations on stars; whether the first one is a pointer to text
abbrev pub are_constant : Bool → List Star → Bool
are_constant char [] = true
are_constant char (star ∷ stars) = is_constant char star.annotation && are_constant false stars

-- all stars but the last
abbrev pub front_stars : List Star → List Star
front_stars stars = take (length stars - 1) stars

-- what a type name's pointer points to, or the type itself where it is none
unfoldable pub pointed_key : Types → TypeName → Option Element
pointed_key types t = and_then (base_key types.structs t.base) (λ key. stars_key types.elements key (front_stars t.stars))

-- the last star: the pointer's own
abbrev pub last_star : List Star → Option Star
last_star stars = slice_get stars (length stars - 1)
