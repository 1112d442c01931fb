-- What a type name declares: an integer that is not `void`, or a pointer whose annotation names integers and other pointers among its
-- siblings; `nullterm` stands on pointers to `char` alone.
use Rattle.std.proofs.Common.{◌≡◌, ◌≢◌, ℕ, ◌==◌, not, ◌&&◌, Bool, true, false, List, [], ◌∷◌, Option, Some, None}
use Rattle.std.proofs.Common.{option_map, ℤ, pos, ◌+ℤ◌, slice_get, if◌then◌else◌, All, refl, sym, ap, ◌∙◌, subst, true≢false}
use Rattle.std.proofs.lemmas.Bool.{and_parts, eq-eqb}
use Rattle.std.proofs.lemmas.List.Elements.{All-nil, All-push}
use Rattle.c_tree.specs.declared.types.Addr.{Addr}
use Rattle.c_tree.specs.declared.types.Annotation.{Annotation}
use Rattle.c_tree.specs.declared.types.Annotation.TheVariants as annotation
use Rattle.c_tree.specs.declared.types.Base.{Base}
use Rattle.c_tree.specs.declared.types.Base.TheVariants as base
use Rattle.c_tree.specs.declared.types.SignedTerm.{SignedTerm}
use Rattle.c_tree.specs.declared.types.Star.{Star}
use Rattle.c_tree.specs.declared.types.Term.{Term}
use Rattle.c_tree.specs.declared.types.Term.TheVariants as term
use Rattle.c_tree.specs.declared.types.TypeName.{TypeName}
use Rattle.checked_tree.specs.declared.shapes.Bounds.{Bounds}
use Rattle.checked_tree.specs.declared.shapes.Bounds.TheVariants as bounds
use Rattle.checked_tree.specs.declared.shapes.Edge.{Edge}
use Rattle.checked_tree.specs.declared.shapes.Scalar.TheVariants as scalar
use Rattle.checked_tree.specs.declared.shapes.Shape.{Shape}
use Rattle.checked_tree.specs.declared.shapes.Shape.TheVariants as shape
use Rattle.deputy_types.specs.declared.element.Element.{Element}
use Rattle.deputy_types.specs.declared.element.Element.TheVariants as element
use Rattle.deputy_types.specs.declared.extent.Extent.{Extent}
use Rattle.deputy_types.specs.declared.sibling.Role.{Role}
use Rattle.deputy_types.specs.declared.sibling.Role.TheVariants as role
use Rattle.deputy_types.specs.declared.sibling.Unannotated.{Unannotated}
use Rattle.deputy_types.specs.declared.sibling.Unannotated.TheVariants as unannotated
use Rattle.deputy_types.specs.declared.siblings.Siblings.{Siblings}
use Rattle.deputy_types.specs.declared.types.Types.{Types}
use Rattle.deputy_types.specs.Declarations.{own, in_bytes, if_small, with_bytes, with_number, with_term, integer_at, integer_number}
use Rattle.deputy_types.specs.Declarations.{pointer_at, pointer_number, edge_named, edge_with, edge_term, edge_terms, edge_offset}
use Rattle.deputy_types.specs.Declarations.{bound_end, up_to, both_ends, default_bounds, annotated_bounds, star_bounds, plain_shape}
use Rattle.deputy_types.specs.Declarations.{pointer_to, pointer_shape, shape_behind, typed_shape}
use Rattle.deputy_types.specs.Extents.{key_extent}
use Rattle.deputy_types.specs.Options.{and_then}
use Rattle.deputy_types.specs.Siblings.{sibling_number, role_of}
use Rattle.deputy_types.specs.Types.{base_key, struct_number, star_key, stars_key, pointer_key, annotated_key, constant_sum, signed_number}
use Rattle.deputy_types.specs.Types.{is_char, element_number, pointed_key, front_stars, last_star}
use Rattle.deputy_types.proofs.Inversions.{some_then, some_map}
use Rattle.layout_laws.proofs.ElementSizes.{numbered}
use Rattle.driver_safety.specs.TypeFacts.{IsInteger}

pub some_same : {A : Type 0} (a b : A) → ◌≡◌ {A = Option A} (Some a) (Some b) → a ≡ b
some_same a b h = cc

pub given : {A : Type 0} (P : A → Type 0) (a b : A) → ◌≡◌ {A = Option A} (Some a) (Some b) → P a → P b
given P a b h p = subst P (some_same a b h) p

pub if_both : {A : Type 0} (t : Bool) (x : Option A) (a : A) → (if t then x else None) ≡ Some a → (t ≡ true) × (x ≡ Some a)
if_both true x a h = (refl, h)
if_both false x a h = absurd cc

-- ---- the types of elements
-- an integer that is not `void`
abbrev pub IsWhole : Element → Type 0
IsWhole (element.Int s) = IsInteger s
IsWhole (element.Struct n) = Unit {0}
IsWhole (element.Sentinel n) = Unit {0}
IsWhole (element.Nullterm n) = Unit {0}
IsWhole (element.Count n k) = Unit {0}

-- and what is nullterm points to `char`
abbrev pub IsKeyOf : List Element → Element → Type 0
IsKeyOf elements (element.Int s) = IsInteger s
IsKeyOf elements (element.Struct n) = Unit {0}
IsKeyOf elements (element.Sentinel n) = Unit {0}
IsKeyOf elements (element.Nullterm n) = slice_get elements n ≡ Some (element.Int scalar.U8)
IsKeyOf elements (element.Count n k) = Unit {0}

pub base_is : (elements : List Element) (structs : List (List ℕ)) (b : Base) (key : Element) → base_key structs b ≡ Some key
    → IsKeyOf elements key
unfolding base_key
base_is elements structs base.Char key h = given (IsKeyOf elements) (element.Int scalar.U8) key h tt
base_is elements structs base.SignedChar key h = given (IsKeyOf elements) (element.Int scalar.I8) key h tt
base_is elements structs base.UnsignedChar key h = given (IsKeyOf elements) (element.Int scalar.U8) key h tt
base_is elements structs base.Short key h = given (IsKeyOf elements) (element.Int scalar.I16) key h tt
base_is elements structs base.UnsignedShort key h = given (IsKeyOf elements) (element.Int scalar.U16) key h tt
base_is elements structs base.Int key h = given (IsKeyOf elements) (element.Int scalar.I32) key h tt
base_is elements structs base.Long key h = given (IsKeyOf elements) (element.Int scalar.I32) key h tt
base_is elements structs base.Unsigned key h = given (IsKeyOf elements) (element.Int scalar.U32) key h tt
base_is elements structs base.UnsignedInt key h = given (IsKeyOf elements) (element.Int scalar.U32) key h tt
base_is elements structs base.UnsignedLong key h = given (IsKeyOf elements) (element.Int scalar.U32) key h tt
base_is elements structs (base.Struct name) key h =
    let n = some_map (struct_number structs name) (λ n. element.Struct n) key h in subst (IsKeyOf elements) n.2 tt

pub char_is : (key : Element) → is_char key ≡ true → key ≡ element.Int scalar.U8
char_is (element.Int scalar.U8) h = refl
char_is (element.Int scalar.Void) h = absurd cc
char_is (element.Int scalar.I8) h = absurd cc
char_is (element.Int scalar.U16) h = absurd cc
char_is (element.Int scalar.I16) h = absurd cc
char_is (element.Int scalar.I32) h = absurd cc
char_is (element.Int scalar.U32) h = absurd cc
char_is (element.Int (scalar.Pointer n)) h = absurd cc
char_is (element.Struct n) h = absurd cc
char_is (element.Sentinel n) h = absurd cc
char_is (element.Nullterm n) h = absurd cc
char_is (element.Count n k) h = absurd cc

annotated_is : (elements : List Element) (n : ℕ) (key out : Element) (a : Annotation) → slice_get elements n ≡ Some key
    → annotated_key n key a ≡ Some out → IsKeyOf elements out
annotated_is elements n key out annotation.Safe at h = given (IsKeyOf elements) (element.Count n (pos 1)) out h tt
annotated_is elements n key out annotation.Sentinel at h = given (IsKeyOf elements) (element.Sentinel n) out h tt
annotated_is elements n key out annotation.Nullterm at h =
    let b = if_both (is_char key) (Some (element.Nullterm n)) out h in
    given (IsKeyOf elements) (element.Nullterm n) out b.1 (at ∙ ap (λ (k : Element). Some k) (char_is key b.0))
annotated_is elements n key out (annotation.Count sum) at h =
    let c = some_map (constant_sum (pos 0) sum.terms) (λ c. element.Count n c) out h in subst (IsKeyOf elements) c.2 tt
annotated_is elements n key out (annotation.Bound lo hi) at h = absurd cc

pub star_is : (elements : List Element) (key out : Element) (star : Star) → star_key elements key star ≡ Some out → IsKeyOf elements out
unfolding star_key pointer_key
star_is elements key out star h =
    let n = some_then (element_number elements key) (λ n. pointer_key n key star.annotation) out h in
    by star.annotation n.0 (numbered elements key n.0 n.1) n.2
  where
    by : (o : Option Annotation) (n : ℕ) → slice_get elements n ≡ Some key → pointer_key n key o ≡ Some out → IsKeyOf elements out
    by None n at h = given (IsKeyOf elements) (element.Count n (pos 1)) out h tt
    by (Some a) n at h = annotated_is elements n key out a at h

pub stars_are : (elements : List Element) (key out : Element) (stars : List Star) → IsKeyOf elements key
    → stars_key elements key stars ≡ Some out → IsKeyOf elements out
stars_are elements key out [] is h = given (IsKeyOf elements) key out h is
stars_are elements key out (star ∷ stars) is h =
    let k = some_then (star_key elements key star) (λ k. stars_key elements k stars) out h in
    stars_are elements k.0 out stars (star_is elements key k.0 star k.1) k.2

pub pointed_is : (types : Types) (t : TypeName) (key : Element) → pointed_key types t ≡ Some key → IsKeyOf types.elements key
unfolding pointed_key
pointed_is types t key h =
    let b = some_then (base_key types.structs t.base) (λ k. stars_key types.elements k (front_stars t.stars)) key h in
    stars_are types.elements b.0 key (front_stars t.stars) (base_is types.elements types.structs t.base b.0 b.1) b.2

-- ---- one side of an annotation
abbrev pub CountsIntegers : Siblings → ℤ × ℕ → Type 0
CountsIntegers siblings t = role_of siblings t.1 ≡ Some role.Integer

abbrev pub StandsOn : Siblings → ℕ → Option ℕ → Type 0
StandsOn siblings place None = Unit {0}
StandsOn siblings place (Some k) = (n : ℕ) × (role_of siblings k ≡ Some (role.Pointer n)) × (k ≢ place)

pub record IsSide (siblings : Siblings) (place : ℕ) (e : Edge) : Type 0 where
  pub base : StandsOn siblings place e.base
  pub terms : All (CountsIntegers siblings) e.terms

module _ (size : ℕ) (siblings : Siblings) (place : ℕ) where
  integer_role : (k j : ℕ) (r : Role) → integer_at k r ≡ Some j → (r ≡ role.Integer) × (k ≡ j)
  integer_role k j role.Integer h = (refl, some_same k j h)
  integer_role k j role.Tag h = absurd cc
  integer_role k j (role.Pointer n) h = absurd cc
  integer_role k j role.Other h = absurd cc

  number_role : (x : List ℕ) (j : ℕ) → integer_number siblings x ≡ Some j → role_of siblings j ≡ Some role.Integer
  unfolding integer_number
  number_role x j h =
      let a = some_then (sibling_number siblings x) (λ k. and_then (role_of siblings k) (λ r. integer_at k r)) j h in
      let b = some_then (role_of siblings a.0) (λ r. integer_at a.0 r) j a.2 in
      let c = integer_role a.0 j b.0 b.2 in
      ap (role_of siblings) (sym c.1) ∙ (b.1 ∙ ap (λ r. Some r) c.0)

  named_side : (e out : Edge) (times : ℤ) (x : List ℕ) → IsSide siblings place e → edge_named size siblings e times x ≡ Some out
      → IsSide siblings place out
  unfolding with_term
  named_side e out times x s h =
      let r = some_map (integer_number siblings x) (λ k. with_term size e times k) out h in
      subst (IsSide siblings place) r.2 (record {
        base = s.base;
        terms = All-push (CountsIntegers siblings) e.terms (in_bytes size times, r.0) s.terms (number_role x r.0 r.1);
      })

  term_side : (e out : Edge) (negative : Bool) (t : Term) → IsSide siblings place e → edge_with size siblings e negative t ≡ Some out
      → IsSide siblings place out
  unfolding with_number
  term_side e out negative (term.Number m) s h =
      let r = some_map (if_small (e.bytes +ℤ in_bytes size (signed_number negative m.value))) (with_bytes e) out h in
      subst (IsSide siblings place) r.2 (record { base = s.base; terms = s.terms })
  term_side e out negative (term.Name x) s h = named_side e out (signed_number negative 1) x s h
  term_side e out negative (term.Product m x) s h = named_side e out (signed_number negative m.value) x s h

  terms_side : (e out : Edge) (ts : List SignedTerm) → IsSide siblings place e → edge_terms size siblings e ts ≡ Some out
      → IsSide siblings place out
  unfolding edge_term
  terms_side e out [] s h = given (IsSide siblings place) e out h s
  terms_side e out (t ∷ ts) s h =
      let r = some_then (edge_term size siblings e t) (λ more. edge_terms size siblings more ts) out h in
      terms_side r.0 out ts (term_side e r.0 t.negative t.term s r.1) r.2

  offset_side : (e out : Edge) (o : Option SignedTerm) → IsSide siblings place e → edge_offset size siblings e o ≡ Some out
      → IsSide siblings place out
  unfolding edge_term
  offset_side e out None s h = given (IsSide siblings place) e out h s
  offset_side e out (Some t) s h = term_side e out t.negative t.term s h

  own_side : IsSide siblings place own
  own_side = record { base = tt; terms = All-nil (CountsIntegers siblings) }

  pointer_role : (elem k j : ℕ) (r : Role) → pointer_at place elem k r ≡ Some j → (n : ℕ) × (r ≡ role.Pointer n) × (k ≡ j) × (k ≢ place)
  pointer_role elem k j role.Integer h = absurd cc
  pointer_role elem k j role.Tag h = absurd cc
  pointer_role elem k j role.Other h = absurd cc
  pointer_role elem k j (role.Pointer n) h =
      let b = if_both ((n == elem) && not (k == place)) (Some k) j h in
      (n, refl, some_same k j b.1, other k (and_parts (n == elem) (not (k == place)) b.0).1)
    where
      other : (k : ℕ) → not (k == place) ≡ true → k ≢ place
      other k h e = true≢false (sym h ∙ ap not (eq-eqb k place e))

  bound_side : (elem : ℕ) (a : Addr) (out : Edge) → bound_end size siblings place elem a ≡ Some out → IsSide siblings place out
  unfolding bound_end pointer_number
  bound_side elem a out h =
      let k = some_then (pointer_number siblings place elem a.pointer) (λ k. edge_offset size siblings (record {
        base = Some k;
        terms = [];
        bytes = pos 0;
      }) a.offset) out h in
      let b = some_then (sibling_number siblings a.pointer) (λ k. and_then (role_of siblings k) (λ r. pointer_at place elem k r)) k.0 k.1 in
      let c = some_then (role_of siblings b.0) (λ r. pointer_at place elem b.0 r) k.0 b.2 in
      let d = pointer_role elem b.0 k.0 c.0 c.2 in
      let is : StandsOn siblings place (Some b.0) = (d.0, c.1 ∙ ap (λ r. Some r) d.1, d.3) in
      offset_side (record { base = Some k.0; terms = []; bytes = pos 0 }) out a.offset
      (record { base = subst (λ n. StandsOn siblings place (Some n)) d.2 is; terms = All-nil (CountsIntegers siblings) }) k.2

-- ---- bounds
abbrev pub AreBounds : List Element → Unannotated → Siblings → ℕ → ℕ → Bounds → Type 0
AreBounds elements plain siblings place elem bounds.Hidden = plain ≡ unannotated.Hidden
AreBounds elements plain siblings place elem bounds.Nullterm = slice_get elements elem ≡ Some (element.Int scalar.U8)
AreBounds elements plain siblings place elem (bounds.Within lo hi) = IsSide siblings place lo × IsSide siblings place hi

abbrev pub IsShapeOf : List Element → Unannotated → Siblings → ℕ → Shape → Type 0
IsShapeOf elements plain siblings place (shape.Int s) = IsInteger s
IsShapeOf elements plain siblings place (shape.Pointer elem b) = AreBounds elements plain siblings place elem b
IsShapeOf elements plain siblings place (shape.Struct n) = Unit {0}
IsShapeOf elements plain siblings place shape.Address = ⊥

module _ (elements : List Element) (plain : Unannotated) (siblings : Siblings) (place : ℕ) where
  annotated_are : (size elem : ℕ) (key : Element) (a : Annotation) (b : Bounds) → slice_get elements elem ≡ Some key
      → annotated_bounds size siblings place elem key a ≡ Some b → AreBounds elements plain siblings place elem b
  unfolding annotated_bounds both_ends
  annotated_are size elem key annotation.Safe b at h =
      given (AreBounds elements plain siblings place elem) (up_to size (pos 1)) b h (
        own_side size siblings place,
        record {
          base = tt;
          terms = All-nil (CountsIntegers siblings);
        },
      )
  annotated_are size elem key annotation.Sentinel b at h =
      given (AreBounds elements plain siblings place elem) (up_to size (pos 0)) b h (
        own_side size siblings place,
        record {
          base = tt;
          terms = All-nil (CountsIntegers siblings);
        },
      )
  annotated_are size elem key annotation.Nullterm b at h =
      let c = if_both (is_char key) (Some bounds.Nullterm) b h in
      given (AreBounds elements plain siblings place elem) bounds.Nullterm b c.1 (at ∙ ap (λ (k : Element). Some k) (char_is key c.0))
  annotated_are size elem key (annotation.Count sum) b at h =
      let m = some_map (edge_terms size siblings own sum.terms) (λ hi. bounds.Within own hi) b h in
      subst (AreBounds elements plain siblings place elem) m.2
      (own_side size siblings place, terms_side size siblings place own m.0 sum.terms (own_side size siblings place) m.1)
  annotated_are size elem key (annotation.Bound lo hi) b at h =
      let l = some_then (bound_end size siblings place elem lo) (λ low. option_map
      (λ high. bounds.Within low high) (bound_end size siblings place elem hi)) b h in
      let g = some_map (bound_end size siblings place elem hi) (λ high. bounds.Within l.0 high) b l.2 in
      subst (AreBounds elements plain siblings place elem) g.2
      (bound_side size siblings place elem lo l.0 l.1, bound_side size siblings place elem hi g.0 g.1)

  default_are : (size elem : ℕ) (p : Unannotated) → plain ≡ p → AreBounds elements plain siblings place elem (default_bounds size p)
  default_are size elem unannotated.Safe e = (own_side size siblings place, record { base = tt; terms = All-nil (CountsIntegers siblings) })
  default_are size elem unannotated.Hidden e = e

  star_are : (size elem : ℕ) (key : Element) (o : Option Annotation) (b : Bounds) → slice_get elements elem ≡ Some key
      → star_bounds size plain siblings place elem key o ≡ Some b → AreBounds elements plain siblings place elem b
  star_are size elem key None b at h = given (AreBounds elements plain siblings place elem) (default_bounds size plain) b h
      (default_are size elem plain refl)
  star_are size elem key (Some a) b at h = annotated_are size elem key a b at h

  plain_is : (key : Element) (x : Shape) → IsKeyOf elements key → plain_shape key ≡ Some x → IsShapeOf elements plain siblings place x
  plain_is (element.Int s) x is h = given (IsShapeOf elements plain siblings place) (shape.Int s) x h is
  plain_is (element.Struct n) x is h = given (IsShapeOf elements plain siblings place) (shape.Struct n) x h tt
  plain_is (element.Sentinel n) x is h = absurd cc
  plain_is (element.Nullterm n) x is h = absurd cc
  plain_is (element.Count n k) x is h = absurd cc

  pointer_is : (extents : List Extent) (key : Element) (star : Star) (x : Shape)
      → pointer_shape elements extents plain siblings place key star ≡ Some x
      → IsShapeOf elements plain siblings place x
  unfolding pointer_shape
  pointer_is extents key star x h =
      let n = some_then (element_number elements key)
      (λ elem. pointer_to (key_extent extents key).bytes plain siblings place elem key star) x h in
      let b = some_map (star_bounds (key_extent extents key).bytes plain siblings place n.0 key star.annotation)
      (λ b. shape.Pointer n.0 b) x n.2 in
      subst (IsShapeOf elements plain siblings place) b.2
      (star_are (key_extent extents key).bytes n.0 key star.annotation b.0 (numbered elements key n.0 n.1) b.1)

  behind_is : (extents : List Extent) (key : Element) (o : Option Star) (x : Shape) → IsKeyOf elements key
      → shape_behind elements extents plain siblings place key o ≡ Some x → IsShapeOf elements plain siblings place x
  behind_is extents key None x is h = plain_is key x is h
  behind_is extents key (Some star) x is h = pointer_is extents key star x h

-- the shape that a type name declares
pub typed_is : (types : Types) (extents : List Extent) (plain : Unannotated) (siblings : Siblings) (place : ℕ) (t : TypeName) (x : Shape)
    → typed_shape types extents plain siblings place t ≡ Some x → IsShapeOf types.elements plain siblings place x
unfolding typed_shape
typed_is types extents plain siblings place t x h =
    let a = some_then (pointed_key types t) (λ key. shape_behind types.elements extents plain siblings place key (last_star t.stars)) x h in
    behind_is types.elements plain siblings place extents a.0 (last_star t.stars) x (pointed_is types t a.0 a.1) a.2
