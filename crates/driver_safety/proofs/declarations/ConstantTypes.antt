-- A type name with constant annotations declares the shape of its key, whatever siblings there are.
use Rattle.std.proofs.Common.{◌≡◌, ℕ, suc, ◌-◌, ◌*◌, Bool, List, [], ◌∷◌, length, take, Option, Some, None}
use Rattle.std.proofs.Common.{option_map, unwrap_or, ℤ, pos, ◌+ℤ◌, slice_get, refl, sym, ap, ◌∙◌, subst, arith}
use Rattle.c_tree.specs.declared.types.Annotation.{Annotation}
use Rattle.c_tree.specs.declared.types.Annotation.TheVariants as annotation
use Rattle.c_tree.specs.declared.types.SignedTerm.{SignedTerm}
use Rattle.c_tree.specs.declared.types.Star.{Star}
use Rattle.c_tree.specs.declared.types.Term.{Term}
use Rattle.c_tree.specs.declared.types.Term.TheVariants as term
use Rattle.c_tree.specs.declared.types.TypeName.{TypeName}
use Rattle.checked_tree.specs.declared.shapes.Bounds.{Bounds}
use Rattle.checked_tree.specs.declared.shapes.Bounds.TheVariants as bounds
use Rattle.checked_tree.specs.declared.shapes.Edge.{Edge}
use Rattle.checked_tree.specs.declared.shapes.Shape.{Shape}
use Rattle.checked_tree.specs.declared.shapes.Shape.TheVariants as shape
use Rattle.dep_expr.proofs.Integers.{add-mul}
use Rattle.deputy_types.specs.declared.element.Element.{Element}
use Rattle.deputy_types.specs.declared.element.Element.TheVariants as element
use Rattle.deputy_types.specs.declared.extent.Extent.{Extent}
use Rattle.deputy_types.specs.declared.sibling.Unannotated.TheVariants as unannotated
use Rattle.deputy_types.specs.declared.siblings.Siblings.{Siblings}
use Rattle.deputy_types.specs.declared.types.Types.{Types}
use Rattle.deputy_types.specs.Declarations.{own, in_bytes, is_small, if_small, with_bytes, with_number, edge_with, edge_term, edge_terms}
use Rattle.deputy_types.specs.Declarations.{up_to, annotated_bounds, star_bounds, plain_shape, pointer_to, pointer_shape}
use Rattle.deputy_types.specs.Declarations.{shape_behind, typed_shape}
use Rattle.deputy_types.specs.Extents.{key_extent}
use Rattle.deputy_types.specs.Options.{and_then}
use Rattle.deputy_types.specs.Table.{elem_size}
use Rattle.deputy_types.specs.Types.{base_key, element_number, star_key, stars_key, pointer_key, annotated_key, signed_number}
use Rattle.deputy_types.specs.Types.{term_constant, number_of_term, if_count, is_count, next_sum, constant_sum, is_char, front_stars}
use Rattle.deputy_types.specs.Types.{last_star, pointed_key, type_key}
use Rattle.deputy_types.specs.UnitLayout.{elem_shape}
use Rattle.deputy_types.proofs.Inversions.{some_then, some_map}
use Rattle.layout_laws.proofs.ElementSizes.{numbered}
use Rattle.driver_safety.proofs.declarations.DeclaredShapes.{some_same, if_both}

-- ---- sums without names
no_bytes : (size : ℕ) → 0 * size ≡ 0
no_bytes size = omega arith

module _ (size : ℕ) (siblings : Siblings) where
  abbrev plain_edge : ℤ → Edge
  plain_edge z = record { base = None; terms = []; bytes = in_bytes size z }

  term_is : (sum z : ℤ) (negative : Bool) (t : Term) (e : Edge) → number_of_term negative t ≡ Some z
      → edge_with size siblings (plain_edge sum) negative t ≡ Some e
      → e ≡ plain_edge (sum +ℤ z)
  unfolding with_number
  term_is sum z negative (term.Name x) e n h = absurd cc
  term_is sum z negative (term.Product m x) e n h = absurd cc
  term_is sum z negative (term.Number m) e n h =
      let r = some_map (if_small (in_bytes size sum +ℤ in_bytes size (signed_number negative m.value))) (with_bytes (plain_edge sum)) e h in
      let b = if_both (is_small (in_bytes size sum +ℤ in_bytes size (signed_number negative m.value)))
      (Some (in_bytes size sum +ℤ in_bytes size (signed_number negative m.value))) r.0 r.1 in
      let same = some_same (in_bytes size sum +ℤ in_bytes size (signed_number negative m.value)) r.0 b.1 in
      let value = some_same (signed_number negative m.value) z n in
      sym r.2 ∙ ap (λ (y : ℤ). with_bytes (plain_edge sum) y) (sym same ∙ (ap
      (λ (y : ℤ). in_bytes size sum +ℤ in_bytes size y) value ∙ sym (add-mul sum z (pos size))))

  terms_are : (sum c : ℤ) (ts : List SignedTerm) (e : Edge) → constant_sum sum ts ≡ Some c
      → edge_terms size siblings (plain_edge sum) ts ≡ Some e → e ≡ plain_edge c
  unfolding next_sum term_constant edge_term
  terms_are sum c [] e n h = sym (some_same (plain_edge sum) e h) ∙ ap plain_edge (some_same sum c n)
  terms_are sum c (t ∷ ts) e n h =
      let s = some_then (next_sum sum t) (λ more. constant_sum more ts) c n in
      let z = some_then (term_constant t) (λ n. if_count (sum +ℤ n)) s.0 s.1 in
      let b = if_both (is_count (sum +ℤ z.0)) (Some (sum +ℤ z.0)) s.0 z.2 in
      let same : sum +ℤ z.0 ≡ s.0 = some_same (sum +ℤ z.0) s.0 b.1 in
      let r = some_then (edge_term size siblings (plain_edge sum) t) (λ more. edge_terms size siblings more ts) e h in
      let one = term_is sum z.0 t.negative t.term r.0 z.1 r.1 in
      terms_are s.0 c ts e s.2 (ap (λ (x : Edge). edge_terms size siblings x ts) (sym (one ∙ ap plain_edge same)) ∙ r.2)

  zero_edge : plain_edge (pos 0) ≡ own
  zero_edge = ap (λ (n : ℕ). record { base = None; terms = []; bytes = pos n }) (no_bytes size)

  own_terms : (c : ℤ) (ts : List SignedTerm) (e : Edge) → constant_sum (pos 0) ts ≡ Some c → edge_terms size siblings own ts ≡ Some e
      → e ≡ plain_edge c
  own_terms c ts e n h = terms_are (pos 0) c ts e n (ap (λ (x : Edge). edge_terms size siblings x ts) zero_edge ∙ h)

-- ---- stars
one_less : (star next : Star) (stars : List Star) → length (star ∷ next ∷ stars) - 1 ≡ suc (length (next ∷ stars) - 1)
one_less star next stars = omega arith

front_more : (star next : Star) (stars : List Star) → front_stars (star ∷ next ∷ stars) ≡ star ∷ front_stars (next ∷ stars)
front_more star next stars = ap (λ (m : ℕ). take m (star ∷ next ∷ stars)) (one_less star next stars)

last_more : (star next : Star) (stars : List Star) → last_star (star ∷ next ∷ stars) ≡ last_star (next ∷ stars)
last_more star next stars = ap (λ (m : ℕ). slice_get (star ∷ next ∷ stars) m) (one_less star next stars)

-- all stars but the last, then the last
stars_split : (elements : List Element) (key out : Element) (star : Star) (stars : List Star)
    → stars_key elements key (star ∷ stars) ≡ Some out
    → (k : Element) × (last : Star) × (stars_key elements key (front_stars (star ∷ stars)) ≡ Some k) ×
    (last_star (star ∷ stars) ≡ Some last) × (star_key elements k last ≡ Some out)
stars_split elements key out star [] h =
    let k = some_then (star_key elements key star) (λ k. stars_key elements k []) out h in
    (key, star, refl, refl, k.1 ∙ k.2)
stars_split elements key out star (next ∷ stars) h =
    let k = some_then (star_key elements key star) (λ k. stars_key elements k (next ∷ stars)) out h in
    let r = stars_split elements k.0 out next stars k.2 in (
      r.0,
      r.1,
      ap (stars_key elements key) (front_more star next stars) ∙ (ap (λ (o : Option Element). and_then o
          (λ j. stars_key elements j (front_stars (next ∷ stars)))) k.1 ∙ r.2),
      last_more star next stars ∙ r.3,
      r.4,
    )

-- ---- the shape of a key
module _ (types : Types) (extents : List Extent) (siblings : Siblings) (place : ℕ) where
  abbrev shape_for : Element → Shape
  shape_for key = elem_shape types.elements extents key

  size_at : (n : ℕ) (key : Element) → element_number types.elements key ≡ Some n
      → unwrap_or (elem_size types.elements extents n) 0 ≡ (key_extent extents key).bytes
  unfolding elem_size
  size_at n key h = ap (λ (o : Option Element). unwrap_or (option_map
      (λ k. (key_extent extents k).bytes) o) 0) (numbered types.elements key n h)

  noted : (n : ℕ) (key out : Element) (a : Annotation) (b : Bounds) → element_number types.elements key ≡ Some n
      → annotated_key n key a ≡ Some out
      → annotated_bounds (key_extent extents key).bytes siblings place n key a ≡ Some b → shape.Pointer n b ≡ shape_for out
  unfolding annotated_bounds elem_shape
  noted n key out annotation.Safe b at k h =
      sym (ap (λ (x : Bounds). shape.Pointer n x) (some_same (up_to (key_extent extents key).bytes (pos 1)) b h))
      ∙ (ap (λ (s : ℕ). shape.Pointer n (up_to s (pos 1))) (sym (size_at n key at)) ∙ ap shape_for
      (some_same (element.Count n (pos 1)) out k))
  noted n key out annotation.Sentinel b at k h =
      sym (ap (λ (x : Bounds). shape.Pointer n x) (some_same (up_to (key_extent extents key).bytes (pos 0)) b h))
      ∙ (ap (λ (m : ℕ). shape.Pointer n (bounds.Within own (with_bytes own (pos m))))
      (no_bytes (key_extent extents key).bytes) ∙ ap shape_for (some_same (element.Sentinel n) out k))
  noted n key out annotation.Nullterm b at k h =
      let c = if_both (is_char key) (Some bounds.Nullterm) b h in
      let d = if_both (is_char key) (Some (element.Nullterm n)) out k in
      sym (ap (λ (x : Bounds). shape.Pointer n x) (some_same bounds.Nullterm b c.1)) ∙ ap shape_for (some_same (element.Nullterm n) out d.1)
  noted n key out (annotation.Count sum) b at k h =
      let c = some_map (constant_sum (pos 0) sum.terms) (λ c. element.Count n c) out k in
      let m = some_map (edge_terms (key_extent extents key).bytes siblings own sum.terms) (λ hi. bounds.Within own hi) b h in
      let is = own_terms (key_extent extents key).bytes siblings c.0 sum.terms m.0 c.1 m.1 in
      sym (ap (λ (x : Bounds). shape.Pointer n x) m.2) ∙ (ap (λ (e : Edge). shape.Pointer n (bounds.Within own e)) is
      ∙ (ap (λ (s : ℕ). shape.Pointer n (up_to s c.0)) (sym (size_at n key at)) ∙ ap shape_for c.2))
  noted n key out (annotation.Bound lo hi) b at k h = absurd cc

  starred : (key out : Element) (star : Star) (x : Shape) → star_key types.elements key star ≡ Some out
      → pointer_shape types.elements extents unannotated.Safe siblings place key star ≡ Some x → x ≡ shape_for out
  unfolding star_key pointer_key pointer_shape elem_shape
  starred key out star x k h =
      let n = some_then (element_number types.elements key) (λ n. pointer_key n key star.annotation) out k in
      let m = some_then (element_number types.elements key)
      (λ elem. pointer_to (key_extent extents key).bytes unannotated.Safe siblings place elem key star) x h in
      let same : m.0 ≡ n.0 = some_same m.0 n.0 (sym m.1 ∙ n.1) in
      let b = some_map (star_bounds (key_extent extents key).bytes unannotated.Safe siblings place m.0 key star.annotation)
      (λ b. shape.Pointer m.0 b) x m.2 in
      sym b.2 ∙ by star.annotation m.0 b.0 m.1 (subst (λ (i : ℕ). pointer_key i key star.annotation ≡ Some out) (sym same) n.2) b.1
    where
      by : (o : Option Annotation) (n : ℕ) (b : Bounds) → element_number types.elements key ≡ Some n → pointer_key n key o ≡ Some out
          → star_bounds (key_extent extents key).bytes unannotated.Safe siblings place n key o ≡ Some b → shape.Pointer n b ≡ shape_for out
      by None n b at k h =
          sym (ap (λ (y : Bounds). shape.Pointer n y) (some_same (up_to (key_extent extents key).bytes (pos 1)) b h))
          ∙ (ap (λ (s : ℕ). shape.Pointer n (up_to s (pos 1))) (sym (size_at n key at)) ∙ ap shape_for
          (some_same (element.Count n (pos 1)) out k))
      by (Some a) n b at k h = noted n key out a b at k h

  plain_same : (key : Element) (x : Shape) → plain_shape key ≡ Some x → x ≡ shape_for key
  unfolding elem_shape
  plain_same (element.Int s) x h = sym (some_same (shape.Int s) x h)
  plain_same (element.Struct n) x h = sym (some_same (shape.Struct n) x h)
  plain_same (element.Sentinel n) x h = absurd cc
  plain_same (element.Nullterm n) x h = absurd cc
  plain_same (element.Count n k) x h = absurd cc

  by_stars : (base : Option Element) (stars : List Star) (key : Element) (x : Shape)
      → and_then base (λ k. stars_key types.elements k stars) ≡ Some key
      → and_then (and_then base (λ k. stars_key types.elements k (front_stars stars)))
      (λ k. shape_behind types.elements extents unannotated.Safe siblings place k (last_star stars)) ≡ Some x
      → x ≡ shape_for key
  by_stars None stars key x k h = absurd cc
  by_stars (Some b) [] key x k h = plain_same b x h ∙ ap shape_for (some_same b key k)
  by_stars (Some b) (star ∷ stars) key x k h =
      let s = stars_split types.elements b key star stars k in
      let a = some_then (stars_key types.elements b (front_stars (star ∷ stars)))
      (λ k. shape_behind types.elements extents unannotated.Safe siblings place k (last_star (star ∷ stars))) x h in
      let same : a.0 ≡ s.0 = some_same a.0 s.0 (sym a.1 ∙ s.2) in
      starred s.0 key s.1 x s.4 (subst
      (λ (j : Element). shape_behind types.elements extents unannotated.Safe siblings place j (Some s.1) ≡ Some x) same
      (subst (λ (o : Option Star). shape_behind types.elements extents unannotated.Safe siblings place a.0 o ≡ Some x) s.3 a.2))

  -- the shape that a type name with a key declares
  pub typed_key : (t : TypeName) (key : Element) (x : Shape) → type_key types t ≡ Some key
      → typed_shape types extents unannotated.Safe siblings place t ≡ Some x → x ≡ shape_for key
  unfolding type_key typed_shape pointed_key
  typed_key t key x k h = by_stars (base_key types.structs t.base) t.stars key x k h
