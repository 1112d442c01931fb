-- The types of a table's elements by number: their shapes, and their bytes.
use Rattle.std.proofs.Common.{◌≡◌, ℕ, ◌+◌, true, List, [], ◌∷◌, Option, Some, None, option_map, unwrap_or, slice_get, refl, sym, ◌∙◌, ap, subst}
use Rattle.std.proofs.lemmas.Bool.{eqb-true, and_parts}
use Rattle.std.proofs.lemmas.Bool.Decides.{Decides-int_eq}
use Rattle.std.proofs.lemmas.List.Quantifiers.{position-Some}
use Rattle.std.proofs.lemmas.Option.{slice_get-map, slice_get-get_or}
use Rattle.c_tree.specs.declared.items.Unit.{Unit as TextUnit}
use Rattle.checked_tree.specs.declared.shapes.Scalar.{Scalar}
use Rattle.checked_tree.specs.declared.shapes.Scalar.TheVariants as scalar
use Rattle.checked_tree.specs.declared.shapes.Shape.{Shape}
use Rattle.checked_tree.specs.declared.shapes.Shape.TheVariants as shape
use Rattle.checked_tree.specs.declared.shapes.StructShape.{StructShape}
use Rattle.checked_tree.specs.Numbers.{scalar_size}
use Rattle.deputy_types.specs.declared.element.Element.{Element}
use Rattle.deputy_types.specs.declared.element.Element.TheVariants as element
use Rattle.deputy_types.specs.declared.extent.Extent.{Extent}
use Rattle.deputy_types.specs.Extents.{no_extent, scalar_extent, struct_extent, key_extent}
use Rattle.deputy_types.specs.Fitting.{shape_size, elem_bytes}
use Rattle.deputy_types.specs.Found.{first_found, struct_names}
use Rattle.deputy_types.specs.Table.{Table}
use Rattle.deputy_types.specs.Types.{same_scalar, same_element, element_number}
use Rattle.deputy_types.specs.UnitLayout.{elem_shape}
use Rattle.deputy_types.proofs.MembersLie.{laid_out-lies}
use Rattle.layout_laws.specs.StructTable.{struct_items}
use Rattle.layout_laws.proofs.FoundGrowth.{items_found}
use Rattle.layout_laws.proofs.Lists.{slice_extended}
use Rattle.deputy_types.specs.declared.laying.Laid.{Laid}
use Rattle.layout_laws.proofs.Steps.{types_in, found_in}
use Rattle.layout_laws.proofs.StructsDeclared.{HasLayouts, laid_at, item_at}

-- ---- equal types are one
same_scalars : (a b : Scalar) → same_scalar a b ≡ true → a ≡ b
same_scalars scalar.Void scalar.Void h = refl
same_scalars scalar.U8 scalar.U8 h = refl
same_scalars scalar.I8 scalar.I8 h = refl
same_scalars scalar.U16 scalar.U16 h = refl
same_scalars scalar.I16 scalar.I16 h = refl
same_scalars scalar.I32 scalar.I32 h = refl
same_scalars scalar.U32 scalar.U32 h = refl
same_scalars (scalar.Pointer n) (scalar.Pointer m) h = ap (λ (k : ℕ). scalar.Pointer k) (eqb-true n m h)
same_scalars _ _ h = absurd cc

pub same_elements : (a b : Element) → same_element a b ≡ true → a ≡ b
same_elements (element.Int a) (element.Int b) h = ap (λ (s : Scalar). element.Int s) (same_scalars a b h)
same_elements (element.Struct a) (element.Struct b) h = ap (λ (n : ℕ). element.Struct n) (eqb-true a b h)
same_elements (element.Sentinel a) (element.Sentinel b) h = ap (λ (n : ℕ). element.Sentinel n) (eqb-true a b h)
same_elements (element.Nullterm a) (element.Nullterm b) h = ap (λ (n : ℕ). element.Nullterm n) (eqb-true a b h)
same_elements (element.Count a m) (element.Count b n) h =
    let both = and_parts _ _ h in
    let number : a ≡ b = eqb-true a b both.0 in
    let count : m ≡ n = (Decides-int_eq m n).0 both.1 in
    cc
same_elements _ _ h = absurd cc

pub numbered : (elements : List Element) (key : Element) (n : ℕ) → element_number elements key ≡ Some n → slice_get elements n ≡ Some key
numbered elements key n h =
    let p = position-Some (same_element key) elements n key h in
    slice_get-get_or elements n key p.0 ∙ ap (λ (k : Element). Some k) (sym (same_elements key _ p.1))

-- ---- the bytes of a type
pub scalar_same : (s : Scalar) → scalar_size s ≡ (scalar_extent s).bytes
scalar_same scalar.Void = refl
scalar_same scalar.U8 = refl
scalar_same scalar.I8 = refl
scalar_same scalar.U16 = refl
scalar_same scalar.I16 = refl
scalar_same scalar.I32 = refl
scalar_same scalar.U32 = refl
scalar_same (scalar.Pointer n) = refl

-- the size of a struct that was laid out is that of its extent
laid_size : (u : TextUnit) (t : Table) (h : HasLayouts u t) (s : ℕ) (o : Option Laid) → slice_get h.laid s ≡ o
    → unwrap_or (option_map (λ (x : StructShape). x.size) (option_map (λ (l : Laid). l.shape) o)) 0 ≡ (unwrap_or (option_map (λ (l : Laid). l.extent) o) no_extent).bytes
laid_size u t h s None at = refl
laid_size u t h s (Some l) at =
    let declared = item_at (types_in u) t.extents 0 s (struct_items u.items) h.laid l h.are at in
    let again = laid_at (types_in u) t.extents 0 s (struct_items u.items) h.laid declared.0 h.are declared.1 in
    let same : again.one ≡ l = let e : Some again.one ≡ Some l = sym again.at ∙ at in cc in
    let lies = laid_out-lies (types_in u) t.extents (0 + s) declared.0 again.one h.within again.is in
    subst (λ (x : Laid). x.shape.size ≡ x.extent.bytes) same (sym lies.bytes)

pub struct_bytes : (u : TextUnit) (t : Table) (h : HasLayouts u t) (s : ℕ) → shape_size t.structs (shape.Struct s) ≡ (struct_extent t.extents s).bytes
struct_bytes u t h s =
    let shape_at : slice_get t.structs s ≡ option_map (λ (l : Laid). l.shape) (slice_get h.laid s) =
    ap (λ (x : List StructShape). slice_get x s) h.shapes ∙ slice_get-map (λ (l : Laid). l.shape) h.laid s in
    let extent_at : slice_get t.extents s ≡ option_map (λ (l : Laid). l.extent) (slice_get h.laid s) =
    ap (λ (x : List Extent). slice_get x s) h.extents ∙ slice_get-map (λ (l : Laid). l.extent) h.laid s in
    ap (λ (o : Option StructShape). unwrap_or (option_map (λ (x : StructShape). x.size) o) 0) shape_at
    ∙ (laid_size u t h s (slice_get h.laid s) refl ∙ sym (ap (λ (o : Option Extent). (unwrap_or o no_extent).bytes) extent_at))

pub type_bytes : (u : TextUnit) (t : Table) (h : HasLayouts u t) (key : Element) → shape_size t.structs (elem_shape t.types.elements t.extents key) ≡ (key_extent t.extents key).bytes
unfolding elem_shape
type_bytes u t h (element.Int s) = scalar_same s
type_bytes u t h (element.Struct s) = struct_bytes u t h s
type_bytes u t h (element.Sentinel n) = refl
type_bytes u t h (element.Nullterm n) = refl
type_bytes u t h (element.Count n k) = refl

-- ---- the elements of a table
pub elem_at : (u : TextUnit) (t : Table) (h : HasLayouts u t) (n : ℕ) (key : Element) → slice_get t.types.elements n ≡ Some key
    → slice_get t.elems n ≡ Some (elem_shape t.types.elements t.extents key)
elem_at u t h n key at =
    ap (λ (l : List Shape). slice_get l n) h.elems
    ∙ (slice_get-map (elem_shape t.types.elements t.extents) t.types.elements n ∙ ap (λ (o : Option Element). option_map (elem_shape t.types.elements t.extents) o) at)

pub elem_bytes_are : (u : TextUnit) (t : Table) (h : HasLayouts u t) (n : ℕ) (key : Element) → slice_get t.types.elements n ≡ Some key
    → elem_bytes t.elems t.structs n ≡ (key_extent t.extents key).bytes
elem_bytes_are u t h n key at =
    ap (λ (o : Option Shape). unwrap_or (option_map (shape_size t.structs) o) 0) (elem_at u t h n key at) ∙ type_bytes u t h key

-- the first element is `char`
pub char_first : (u : TextUnit) (t : Table) (h : HasLayouts u t) → slice_get t.elems 0 ≡ Some (shape.Int scalar.U8)
unfolding elem_shape
char_first u t h =
    let found : slice_get (found_in u).elements 0 ≡ Some (element.Int scalar.U8) =
    slice_extended (element.Int scalar.U8 ∷ []) (found_in u).elements 0 (element.Int scalar.U8) (items_found (struct_names u.items []) u.items first_found).elements refl in
    let here : slice_get t.types.elements 0 ≡ Some (element.Int scalar.U8) = ap (λ x. slice_get x.elements 0) h.types ∙ found in
    elem_at u t h 0 (element.Int scalar.U8) here
