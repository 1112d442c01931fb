-- The bounds that a short declaration gives: its numbers are small, and each factor stands before a sibling that is a number of elements.
use Rattle.std.proofs.Common.{◌≡◌, ℕ, zero, suc, ◌+◌, ◌*◌, ◌≤◌, ◌^◌, Bool, true, false, cond, List, [], ◌∷◌, ◌++◌, length, Option, Some, None, option_map, ℤ, pos, ◌+ℤ◌, unsigned_abs, slice_get, if◌then◌else◌, All, refl, sym, ap, ◌∙◌, subst, arith}
use Rattle.std.proofs.lemmas.Int.{unsigned_abs-mul}
use Rattle.std.proofs.lemmas.Nat.{mul-le}
use Rattle.std.proofs.lemmas.List.{length-append}
use Rattle.std.proofs.lemmas.List.Elements.{All-nil, All-head, All-push}
use Rattle.dep_expr.specs.Weight.{weight}
use Rattle.dep_expr.proofs.Weights.{weight-append}
use Rattle.c_tree.specs.declared.keywords.Keyword.TheVariants as keyword
use Rattle.c_tree.specs.declared.signs.Sign.TheVariants as sign
use Rattle.c_tree.specs.declared.types.Addr.{Addr}
use Rattle.c_tree.specs.declared.types.Annotation.{Annotation}
use Rattle.c_tree.specs.declared.types.Annotation.TheVariants as annotation
use Rattle.c_tree.specs.declared.types.SignedTerm.{SignedTerm}
use Rattle.c_tree.specs.declared.types.Star.{Star}
use Rattle.c_tree.specs.declared.types.Term.{Term}
use Rattle.c_tree.specs.declared.types.Term.TheVariants as term
use Rattle.c_tree.specs.declared.types.TypeName.{TypeName}
use Rattle.c_tree.specs.declared.words.Word.{Word}
use Rattle.c_tree.specs.declared.words.Word.TheVariants as word
use Rattle.c_tree.specs.Spelling.{a_sign, a_name, a_keyword, base_words, term_words, signed_words, first_words, terms_words, sum_words, offset_words, addr_words, in_parentheses, annotation_words, noted_words, stars_words, type_words}
use Rattle.checked_tree.specs.declared.shapes.Bounds.{Bounds}
use Rattle.checked_tree.specs.declared.shapes.Bounds.TheVariants as bounds
use Rattle.checked_tree.specs.declared.shapes.Edge.{Edge}
use Rattle.checked_tree.specs.declared.shapes.Shape.{Shape}
use Rattle.checked_tree.specs.declared.shapes.Shape.TheVariants as shape
use Rattle.deputy_types.specs.declared.element.Element.{Element}
use Rattle.deputy_types.specs.declared.element.Element.TheVariants as element
use Rattle.deputy_types.specs.declared.extent.Extent.{Extent}
use Rattle.deputy_types.specs.declared.sibling.Role.{Role}
use Rattle.deputy_types.specs.declared.sibling.Role.TheVariants as role
use Rattle.deputy_types.specs.declared.sibling.Unannotated.{Unannotated}
use Rattle.deputy_types.specs.declared.sibling.Unannotated.TheVariants as unannotated
use Rattle.deputy_types.specs.declared.siblings.Siblings.{Siblings}
use Rattle.deputy_types.specs.declared.types.Types.{Types}
use Rattle.deputy_types.specs.Declarations.{own, in_bytes, is_small, if_small, with_bytes, with_number, with_term, integer_at, integer_number, pointer_number, edge_named, edge_with, edge_term, edge_terms, edge_offset, bound_end, up_to, both_ends, default_bounds, annotated_bounds, star_bounds, plain_shape, pointer_to, pointer_shape, shape_behind, typed_shape}
use Rattle.deputy_types.specs.Extents.{key_extent}
use Rattle.deputy_types.specs.Options.{and_then}
use Rattle.deputy_types.specs.Siblings.{sibling_number, role_of}
use Rattle.deputy_types.specs.Types.{signed_number, is_char, element_number, pointed_key, last_star}
use Rattle.deputy_types.proofs.Inversions.{some_then, some_map, if_some}
use Rattle.light_checks.specs.Words.{IsSmallWord, IsReadable}
use Rattle.light_checks.proofs.Ensuring.{some_same, given}
use Rattle.light_checks.proofs.ExpressionRules.{both_readable}
use Rattle.light_checks.proofs.Reading.{between_size}

-- a term before a number of elements
abbrev pub IsCounted : Siblings → ℤ × ℕ → Type 0
IsCounted siblings t = role_of siblings t.1 ≡ Some role.Integer

-- a side after so many terms
record IsSide (siblings : Siblings) (n : ℕ) (e : Edge) : Type 0 where
  bytes : unsigned_abs e.bytes ≤ 2 ^ 60
  weight : weight e.terms ≤ n * 281474976710656
  roles : All (IsCounted siblings) e.terms

-- ---- one term
abbrev IsSmallTerm : Term → Type 0
IsSmallTerm (term.Number n) = Unit {0}
IsSmallTerm (term.Name x) = Unit {0}
IsSmallTerm (term.Product n x) = n.value ≤ 2 ^ 32

signed_abs : (negative : Bool) (n : ℕ) → unsigned_abs (signed_number negative n) ≡ n
signed_abs false n = refl
signed_abs true zero = refl
signed_abs true (suc n) = refl

side_small : (z s : ℤ) → if_small z ≡ Some s → unsigned_abs s ≤ 2 ^ 60
side_small z s h = by (is_small z) refl h
  where
    by : (b : Bool) → is_small z ≡ b → (if b then Some z else None) ≡ Some s → unsigned_abs s ≤ 2 ^ 60
    by true e found = given (λ y. unsigned_abs y ≤ 2 ^ 60) z s found (between_size (2 ^ 60) z e)
    by false e found = absurd cc

module _ (size : ℕ) (few : size ≤ 65536) (siblings : Siblings) where
  integer_role : (k j : ℕ) (r : Role) → integer_at k r ≡ Some j → r ≡ role.Integer
  integer_role k j role.Integer h = refl
  integer_role k j role.Tag h = absurd cc
  integer_role k j (role.Pointer n) h = absurd cc
  integer_role k j role.Other h = absurd cc

  integer_same : (k j : ℕ) (r : Role) → integer_at k r ≡ Some j → k ≡ j
  integer_same k j role.Integer h = some_same k j h
  integer_same k j role.Tag h = absurd cc
  integer_same k j (role.Pointer n) h = absurd cc
  integer_same k j role.Other h = absurd cc

  number_role : (x : List ℕ) (j : ℕ) → integer_number siblings x ≡ Some j → role_of siblings j ≡ Some role.Integer
  unfolding integer_number
  number_role x j h =
      let a = some_then (sibling_number siblings x) (λ k. and_then (role_of siblings k) (λ r. integer_at k r)) j h in
      let b = some_then (role_of siblings a.0) (λ r. integer_at a.0 r) j a.2 in
      ap (role_of siblings) (sym (integer_same a.0 j b.0 b.2)) ∙ (b.1 ∙ ap (λ r. Some r) (integer_role a.0 j b.0 b.2))

  named_side : (n : ℕ) (e out : Edge) (times : ℤ) (x : List ℕ) → unsigned_abs times ≤ 2 ^ 32 → IsSide siblings n e → edge_named size siblings e times x ≡ Some out → IsSide siblings (n + 1) out
  unfolding with_term
  named_side n e out times x small s h =
      let r = some_map (integer_number siblings x) (λ k. with_term size e times k) out h in
      let t : ℤ × ℕ = (in_bytes size times, r.0) in
      let w = s.weight in
      let p = product times small in
      subst (IsSide siblings (n + 1)) r.2 (record {
        bytes = s.bytes;
        weight = omega (arith, weight-append e.terms (t ∷ []), w, p);
        roles = All-push (IsCounted siblings) e.terms t s.roles (number_role x r.0 r.1);
      })
    where
      product : (times : ℤ) → unsigned_abs times ≤ 2 ^ 32 → unsigned_abs (in_bytes size times) ≤ 281474976710656
      product times h = omega (arith, unsigned_abs-mul times (pos size), mul-le (unsigned_abs times) size (2 ^ 32) 65536 h few)

  term_side : (n : ℕ) (e out : Edge) (negative : Bool) (t : Term) → IsSmallTerm t → IsSide siblings n e → edge_with size siblings e negative t ≡ Some out → IsSide siblings (n + 1) out
  unfolding with_number
  term_side n e out negative (term.Number m) small s h =
      let r = some_map (if_small (e.bytes +ℤ in_bytes size (signed_number negative m.value))) (with_bytes e) out h in
      subst (IsSide siblings (n + 1)) r.2 (record { bytes = side_small (e.bytes +ℤ in_bytes size (signed_number negative m.value)) r.0 r.1; weight = omega (arith, s.weight); roles = s.roles })
  term_side n e out negative (term.Name x) small s h = named_side n e out (signed_number negative 1) x (omega (arith, signed_abs negative 1)) s h
  term_side n e out negative (term.Product m x) small s h = named_side n e out (signed_number negative m.value) x (omega (arith, signed_abs negative m.value)) s h

  -- ---- many terms
  abbrev AreSmallTerms : List SignedTerm → Type 0
  AreSmallTerms [] = Unit {0}
  AreSmallTerms (t ∷ ts) = IsSmallTerm t.term × AreSmallTerms ts

  terms_side : (n : ℕ) (e out : Edge) (ts : List SignedTerm) → AreSmallTerms ts → IsSide siblings n e → edge_terms size siblings e ts ≡ Some out → IsSide siblings (n + length ts) out
  unfolding edge_term
  terms_side n e out [] small s h = given (IsSide siblings (n + 0)) e out h (record { bytes = s.bytes; weight = omega (arith, s.weight); roles = s.roles })
  terms_side n e out (t ∷ ts) small s h =
      let r = some_then (edge_term size siblings e t) (λ more. edge_terms size siblings more ts) out h in
      let one = term_side n e r.0 t.negative t.term small.0 s r.1 in
      let rest = terms_side (n + 1) r.0 out ts small.1 one r.2 in
      record { bytes = rest.bytes; weight = omega (arith, rest.weight); roles = rest.roles }

  -- ---- terms from words
  term_small : (t : Term) → IsReadable (term_words t) → IsSmallTerm t
  term_small (term.Number n) r = tt
  term_small (term.Name x) r = tt
  term_small (term.Product n x) r = All-head IsSmallWord (word.Number n.value n.suffix) (a_sign sign.Star ++ a_name x) r.small

  signed_small : (negative : Bool) (t : Term) → IsReadable (cond negative (a_sign sign.Minus ++ term_words t) (a_sign sign.Plus ++ term_words t)) → IsSmallTerm t
  signed_small true t r = term_small t (both_readable (a_sign sign.Minus) (term_words t) r).1
  signed_small false t r = term_small t (both_readable (a_sign sign.Plus) (term_words t) r).1

  first_small : (negative : Bool) (t : Term) → IsReadable (cond negative (a_sign sign.Minus ++ term_words t) (term_words t)) → IsSmallTerm t
  first_small true t r = term_small t (both_readable (a_sign sign.Minus) (term_words t) r).1
  first_small false t r = term_small t r

  terms_small : (ts : List SignedTerm) → IsReadable (terms_words ts) → AreSmallTerms ts
  terms_small [] r = tt
  terms_small (t ∷ ts) r = let b = both_readable (signed_words t) (terms_words ts) r in (signed_small t.negative t.term b.0, terms_small ts b.1)

  sum_small : (ts : List SignedTerm) → IsReadable (sum_words ts) → AreSmallTerms ts
  sum_small [] r = tt
  sum_small (t ∷ ts) r = let b = both_readable (first_words t) (terms_words ts) r in (first_small t.negative t.term b.0, terms_small ts b.1)

  term_words_some : (t : Term) → 1 ≤ length (term_words t)
  term_words_some (term.Number n) = omega arith
  term_words_some (term.Name x) = omega arith
  term_words_some (term.Product n x) = omega arith

  signed_some : (negative : Bool) (t : Term) → 1 ≤ length (cond negative (a_sign sign.Minus ++ term_words t) (a_sign sign.Plus ++ term_words t))
  signed_some true t = omega (arith, term_words_some t)
  signed_some false t = omega (arith, term_words_some t)

  first_some : (negative : Bool) (t : Term) → 1 ≤ length (cond negative (a_sign sign.Minus ++ term_words t) (term_words t))
  first_some true t = omega (arith, term_words_some t)
  first_some false t = term_words_some t

  terms_few : (ts : List SignedTerm) → length ts ≤ length (terms_words ts)
  terms_few [] = omega arith
  terms_few (t ∷ ts) = omega (arith, length-append (signed_words t) (terms_words ts), signed_some t.negative t.term, terms_few ts)

  pub sum_few : (ts : List SignedTerm) → length ts ≤ length (sum_words ts)
  sum_few [] = omega arith
  sum_few (t ∷ ts) = omega (arith, length-append (first_words t) (terms_words ts), first_some t.negative t.term, terms_few ts)

-- ---- bounds
-- a side as an annotation gives it
pub record IsRoled (siblings : Siblings) (e : Edge) : Type 0 where
  pub bytes : unsigned_abs e.bytes ≤ 2 ^ 60
  pub weight : weight e.terms ≤ 2 ^ 58
  pub roles : All (IsCounted siblings) e.terms

abbrev pub AreRoled : Siblings → Bounds → Type 0
AreRoled siblings bounds.Hidden = Unit {0}
AreRoled siblings bounds.Nullterm = Unit {0}
AreRoled siblings (bounds.Within lo hi) = IsRoled siblings lo × IsRoled siblings hi

abbrev pub IsRoledShape : Siblings → Shape → Type 0
IsRoledShape siblings (shape.Int s) = Unit {0}
IsRoledShape siblings (shape.Pointer elem b) = AreRoled siblings b
IsRoledShape siblings (shape.Struct s) = Unit {0}
IsRoledShape siblings shape.Address = Unit {0}

module _ (size : ℕ) (few : size ≤ 65536) (siblings : Siblings) where
  roled : (n : ℕ) (e : Edge) → n ≤ 1000 → IsSide siblings n e → IsRoled siblings e
  roled n e h s = record { bytes = s.bytes; weight = omega (arith, s.weight); roles = s.roles }

  from_base : (o : Option ℕ) → IsSide siblings 0 (record { base = o; terms = []; bytes = pos 0 })
  from_base o = record { bytes = omega arith; weight = omega arith; roles = All-nil (IsCounted siblings) }

  up_to_roled : (n : ℕ) → n ≤ 1 → AreRoled siblings (up_to size (pos n))
  up_to_roled n h =
      let p = unsigned_abs-mul (pos n) (pos size) in
      let q = mul-le n size 1 65536 h few in
      (roled 0 own (omega arith) (from_base None), record { bytes = omega arith; weight = omega arith; roles = All-nil (IsCounted siblings) })

  offset_roled : (e out : Edge) (o : Option SignedTerm) → IsReadable (offset_words o) → IsSide siblings 0 e → edge_offset size siblings e o ≡ Some out → IsRoled siblings out
  unfolding edge_term
  offset_roled e out None r s h = given (IsRoled siblings) e out h (roled 0 e (omega arith) s)
  offset_roled e out (Some t) r s h = roled 1 out (omega arith) (term_side size few siblings 0 e out t.negative t.term (signed_small size few siblings t.negative t.term r) s h)

  end_roled : (place elem : ℕ) (a : Addr) (out : Edge) → IsReadable (addr_words a) → bound_end size siblings place elem a ≡ Some out → IsRoled siblings out
  unfolding bound_end
  end_roled place elem a out r h =
      let k = some_then (pointer_number siblings place elem a.pointer) (λ k. edge_offset size siblings (record { base = Some k; terms = []; bytes = pos 0 }) a.offset) out h in
      offset_roled (record { base = Some k.0; terms = []; bytes = pos 0 }) out a.offset (both_readable (a_name a.pointer) (offset_words a.offset) r).1 (from_base (Some k.0)) k.2

  inside : (ks : List Word) → IsReadable (in_parentheses ks) → IsReadable ks
  inside ks r = (both_readable ks (a_sign sign.ParenClose) (both_readable (a_sign sign.ParenOpen) (ks ++ a_sign sign.ParenClose) r).1).0

  annotated_roled : (place elem : ℕ) (key : Element) (a : Annotation) (b : Bounds) → IsReadable (annotation_words a) → annotated_bounds size siblings place elem key a ≡ Some b → AreRoled siblings b
  unfolding annotated_bounds both_ends
  annotated_roled place elem key annotation.Safe b r h = given (AreRoled siblings) (up_to size (pos 1)) b h (up_to_roled 1 (omega arith))
  annotated_roled place elem key annotation.Sentinel b r h = given (AreRoled siblings) (up_to size (pos 0)) b h (up_to_roled 0 (omega arith))
  annotated_roled place elem key annotation.Nullterm b r h = given (AreRoled siblings) bounds.Nullterm b (if_some (is_char key) (Some bounds.Nullterm) b h) tt
  annotated_roled place elem key (annotation.Count sum) b r h =
      let m = some_map (edge_terms size siblings own sum.terms) (λ hi. bounds.Within own hi) b h in
      let words = inside (sum_words sum.terms) (both_readable (a_keyword keyword.Count) (in_parentheses (sum_words sum.terms)) r).1 in
      let enough = sum_few size few siblings sum.terms in
      let less = words.words in
      subst (AreRoled siblings) m.2 (
        roled 0 own (omega arith) (from_base None),
        roled (0 + length sum.terms) m.0 (omega arith) (terms_side size few siblings 0 own m.0 sum.terms (sum_small size few siblings sum.terms words) (from_base None) m.1),
      )
  annotated_roled place elem key (annotation.Bound lo hi) b r h =
      let words = inside (addr_words lo ++ (a_sign sign.Comma ++ addr_words hi)) (both_readable (a_keyword keyword.Bound) (in_parentheses (addr_words lo ++ (a_sign sign.Comma ++ addr_words hi))) r).1 in
      let first = both_readable (addr_words lo) (a_sign sign.Comma ++ addr_words hi) words in
      let second = (both_readable (a_sign sign.Comma) (addr_words hi) first.1).1 in
      let l = some_then (bound_end size siblings place elem lo) (λ low. option_map (λ high. bounds.Within low high) (bound_end size siblings place elem hi)) b h in
      let g = some_map (bound_end size siblings place elem hi) (λ high. bounds.Within l.0 high) b l.2 in
      subst (AreRoled siblings) g.2 (end_roled place elem lo l.0 first.0 l.1, end_roled place elem hi g.0 second g.1)

  default_roled : (plain : Unannotated) → AreRoled siblings (default_bounds size plain)
  default_roled unannotated.Safe = up_to_roled 1 (omega arith)
  default_roled unannotated.Hidden = tt

  star_roled : (plain : Unannotated) (place elem : ℕ) (key : Element) (o : Option Annotation) (b : Bounds) → IsReadable (noted_words o) → star_bounds size plain siblings place elem key o ≡ Some b
      → AreRoled siblings b
  star_roled plain place elem key None b r h = given (AreRoled siblings) (default_bounds size plain) b h (default_roled plain)
  star_roled plain place elem key (Some a) b r h = annotated_roled place elem key a b r h

-- ---- shapes
pub star_readable : (stars : List Star) (i : ℕ) (s : Star) → IsReadable (stars_words stars) → slice_get stars i ≡ Some s → IsReadable (noted_words s.annotation)
star_readable [] i s r h = absurd cc
star_readable (t ∷ stars) zero s r h =
    subst (λ (x : Star). IsReadable (noted_words x.annotation)) (some_same t s h)
    (both_readable (a_sign sign.Star) (noted_words t.annotation) (both_readable (a_sign sign.Star ++ noted_words t.annotation) (stars_words stars) r).0).1
star_readable (t ∷ stars) (suc i) s r h = star_readable stars i s (both_readable (a_sign sign.Star ++ noted_words t.annotation) (stars_words stars) r).1 h

plain_roled : (siblings : Siblings) (key : Element) (x : Shape) → plain_shape key ≡ Some x → IsRoledShape siblings x
plain_roled siblings (element.Int s) x h = given (IsRoledShape siblings) (shape.Int s) x h tt
plain_roled siblings (element.Struct n) x h = given (IsRoledShape siblings) (shape.Struct n) x h tt
plain_roled siblings (element.Sentinel n) x h = absurd cc
plain_roled siblings (element.Nullterm n) x h = absurd cc
plain_roled siblings (element.Count n k) x h = absurd cc

-- the shape that a short type name declares
pub shape_roled : (types : Types) (extents : List Extent) (plain : Unannotated) (siblings : Siblings) (place : ℕ) (t : TypeName) (x : Shape)
    → ((key : Element) → (key_extent extents key).bytes ≤ 65536) → IsReadable (type_words t) → typed_shape types extents plain siblings place t ≡ Some x → IsRoledShape siblings x
unfolding typed_shape pointer_shape
shape_roled types extents plain siblings place t x sizes r h =
    let words = (both_readable (base_words t.base) (stars_words t.stars) r).1 in
    let a = some_then (pointed_key types t) (λ key. shape_behind types.elements extents plain siblings place key (last_star t.stars)) x h in
    by (last_star t.stars) refl a.0 a.2
  where
    by : (o : Option Star) → last_star t.stars ≡ o → (key : Element) → shape_behind types.elements extents plain siblings place key o ≡ Some x → IsRoledShape siblings x
    by None e key h = plain_roled siblings key x h
    by (Some star) e key h =
        let words = (both_readable (base_words t.base) (stars_words t.stars) r).1 in
        let noted = star_readable t.stars _ star words e in
        let n = some_then (element_number types.elements key) (λ elem. pointer_to (key_extent extents key).bytes plain siblings place elem key star) x h in
        let b = some_map (star_bounds (key_extent extents key).bytes plain siblings place n.0 key star.annotation) (λ b. shape.Pointer n.0 b) x n.2 in
        subst (IsRoledShape siblings) b.2 (star_roled (key_extent extents key).bytes (sizes key) siblings plain place n.0 key star.annotation b.0 noted b.1)
