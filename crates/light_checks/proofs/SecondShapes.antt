-- A type that a short declaration gives with some sizes of structs it gives with all others, bounds aside: no number of a short annotation comes near its limit.
use Rattle.std.proofs.Common.{◌≡◌, ℕ, zero, suc, ◌+◌, ◌*◌, ◌≤◌, ◌<◌, ◌^◌, Bool, true, false, cond, List, [], ◌∷◌, ◌++◌, length, Option, Some, None, option_map, ℤ, pos, negsuc, ◌+ℤ◌, unsigned_abs, if◌then◌else◌, refl, sym, ap, ◌∙◌, arith}
use Rattle.std.proofs.lemmas.Int.{ints, unsigned_abs-mul}
use Rattle.std.proofs.lemmas.Nat.{mul-le}
use Rattle.std.proofs.lemmas.List.Elements.{All-head}
use Rattle.dep_expr.proofs.Weights.{abs-add}
use Rattle.c_tree.specs.declared.keywords.Keyword.TheVariants as keyword
use Rattle.c_tree.specs.declared.signs.Sign.TheVariants as sign
use Rattle.c_tree.specs.declared.types.Addr.{Addr}
use Rattle.c_tree.specs.declared.types.Annotation.{Annotation}
use Rattle.c_tree.specs.declared.types.Annotation.TheVariants as annotation
use Rattle.c_tree.specs.declared.types.SignedTerm.{SignedTerm}
use Rattle.c_tree.specs.declared.types.Star.{Star}
use Rattle.c_tree.specs.declared.types.Term.{Term}
use Rattle.c_tree.specs.declared.types.Term.TheVariants as term
use Rattle.c_tree.specs.declared.types.TypeName.{TypeName}
use Rattle.c_tree.specs.declared.words.Word.{Word}
use Rattle.c_tree.specs.declared.words.Word.TheVariants as word
use Rattle.c_tree.specs.Spelling.{a_sign, a_name, a_keyword, base_words, term_words, signed_words, first_words, terms_words, sum_words, offset_words, addr_words, in_parentheses, annotation_words, noted_words, stars_words, type_words}
use Rattle.checked_tree.specs.declared.shapes.Bounds.{Bounds}
use Rattle.checked_tree.specs.declared.shapes.Bounds.TheVariants as bounds
use Rattle.checked_tree.specs.declared.shapes.Edge.{Edge}
use Rattle.checked_tree.specs.declared.shapes.Shape.{Shape}
use Rattle.checked_tree.specs.declared.shapes.Shape.TheVariants as shape
use Rattle.deputy_types.specs.declared.element.Element.{Element}
use Rattle.deputy_types.specs.declared.extent.Extent.{Extent}
use Rattle.deputy_types.specs.declared.sibling.Unannotated.{Unannotated}
use Rattle.deputy_types.specs.declared.siblings.Siblings.{Siblings}
use Rattle.deputy_types.specs.declared.types.Types.{Types}
use Rattle.deputy_types.specs.Declarations.{own, in_bytes, is_small, with_bytes, with_number, with_term, integer_number, pointer_number, edge_named, edge_with, edge_term, edge_terms, edge_offset, bound_end, up_to, both_ends, default_bounds, annotated_bounds, star_bounds, pointer_to, pointer_shape, shape_behind, typed_shape}
use Rattle.deputy_types.specs.Extents.{key_extent}
use Rattle.deputy_types.specs.Options.{and_then}
use Rattle.deputy_types.specs.Types.{signed_number, element_number, pointed_key, last_star}
use Rattle.deputy_types.proofs.Inversions.{some_then, some_map}
use Rattle.light_checks.specs.Words.{IsSmallWord, IsReadable}
use Rattle.light_checks.proofs.DeclaredSides.{star_readable, sum_few}
use Rattle.light_checks.proofs.ExpressionRules.{both_readable}

-- a shape but for its bounds
abbrev pub kind : Shape → Shape
kind (shape.Int s) = shape.Int s
kind (shape.Pointer elem b) = shape.Pointer elem bounds.Hidden
kind (shape.Struct s) = shape.Struct s
kind shape.Address = shape.Address

small_between : (z : ℤ) → unsigned_abs z ≤ 2 ^ 60 → is_small z ≡ true
small_between (pos n) h = grind (arith, ints)
small_between (negsuc n) h = grind (arith, ints)

number_abs : (negative : Bool) (n : ℕ) → unsigned_abs (signed_number negative n) ≡ n
number_abs false n = refl
number_abs true zero = refl
number_abs true (suc n) = refl

-- ---- one term
abbrev IsSmallTerm : Term → Type 0
IsSmallTerm (term.Number n) = n.value ≤ 2 ^ 32
IsSmallTerm (term.Name x) = Unit {0}
IsSmallTerm (term.Product n x) = Unit {0}

abbrev AreSmallTerms : List SignedTerm → Type 0
AreSmallTerms [] = Unit {0}
AreSmallTerms (t ∷ ts) = IsSmallTerm t.term × AreSmallTerms ts

term_small : (t : Term) → IsReadable (term_words t) → IsSmallTerm t
term_small (term.Number n) r = All-head IsSmallWord (word.Number n.value n.suffix) [] r.small
term_small (term.Name x) r = tt
term_small (term.Product n x) r = tt

signed_small : (negative : Bool) (t : Term) → IsReadable (cond negative (a_sign sign.Minus ++ term_words t) (a_sign sign.Plus ++ term_words t)) → IsSmallTerm t
signed_small true t r = term_small t (both_readable (a_sign sign.Minus) (term_words t) r).1
signed_small false t r = term_small t (both_readable (a_sign sign.Plus) (term_words t) r).1

first_small : (negative : Bool) (t : Term) → IsReadable (cond negative (a_sign sign.Minus ++ term_words t) (term_words t)) → IsSmallTerm t
first_small true t r = term_small t (both_readable (a_sign sign.Minus) (term_words t) r).1
first_small false t r = term_small t r

terms_small : (ts : List SignedTerm) → IsReadable (terms_words ts) → AreSmallTerms ts
terms_small [] r = tt
terms_small (t ∷ ts) r = let b = both_readable (signed_words t) (terms_words ts) r in (signed_small t.negative t.term b.0, terms_small ts b.1)

sum_small : (ts : List SignedTerm) → IsReadable (sum_words ts) → AreSmallTerms ts
sum_small [] r = tt
sum_small (t ∷ ts) r = let b = both_readable (first_words t) (terms_words ts) r in (first_small t.negative t.term b.0, terms_small ts b.1)

-- a side after so many terms of at most 2^32 elements of at most 65,536 bytes
abbrev IsNear : ℕ → Edge → Type 0
IsNear n e = unsigned_abs e.bytes ≤ n * 281474976710656

module _ (one two : ℕ) (few : two ≤ 65536) (siblings : Siblings) where
  -- a side is given again
  abbrev Again : ℕ → Option Edge → Type 0
  Again n o = (again : Edge) × (o ≡ Some again) × IsNear n again

  product : (times : ℤ) → unsigned_abs times ≤ 2 ^ 32 → unsigned_abs (in_bytes two times) ≤ 281474976710656
  product times h = omega (arith, unsigned_abs-mul times (pos two), mul-le (unsigned_abs times) two (2 ^ 32) 65536 h few)

  number_again : (n : ℕ) (f : Edge) (z : ℤ) → unsigned_abs z ≤ 2 ^ 32 → n < 1000 → IsNear n f → Again (n + 1) (with_number two f z)
  unfolding with_number
  number_again n f z small few near =
      let bytes : ℤ = f.bytes +ℤ in_bytes two z in
      let sum = abs-add f.bytes (in_bytes two z) in
      let p = product z small in
      let bound : unsigned_abs bytes ≤ (n + 1) * 281474976710656 = omega arith in
      (with_bytes f bytes, ap (λ (b : Bool). option_map (with_bytes f) (if b then Some bytes else None)) (small_between bytes (omega arith)), bound)

  named_again : (n : ℕ) (e f out : Edge) (times : ℤ) (x : List ℕ) → IsNear n f → edge_named one siblings e times x ≡ Some out → Again (n + 1) (edge_named two siblings f times x)
  unfolding with_term
  named_again n e f out times x near h =
      let r = some_map (integer_number siblings x) (λ k. with_term one e times k) out h in
      (with_term two f times r.0, ap (option_map (λ k. with_term two f times k)) r.1, omega arith)

  term_again : (n : ℕ) (e f out : Edge) (negative : Bool) (t : Term) → IsSmallTerm t → n < 1000 → IsNear n f → edge_with one siblings e negative t ≡ Some out
      → Again (n + 1) (edge_with two siblings f negative t)
  term_again n e f out negative (term.Number m) small less near h = number_again n f (signed_number negative m.value) (omega (arith, number_abs negative m.value)) less near
  term_again n e f out negative (term.Name x) small less near h = named_again n e f out (signed_number negative 1) x near h
  term_again n e f out negative (term.Product m x) small less near h = named_again n e f out (signed_number negative m.value) x near h

  terms_again : (n : ℕ) (e f out : Edge) (ts : List SignedTerm) → AreSmallTerms ts → n + length ts ≤ 1000 → IsNear n f → edge_terms one siblings e ts ≡ Some out
      → (again : Edge) × (edge_terms two siblings f ts ≡ Some again)
  unfolding edge_term
  terms_again n e f out [] small less near h = (f, refl)
  terms_again n e f out (t ∷ ts) small less near h =
      let r = some_then (edge_term one siblings e t) (λ more. edge_terms one siblings more ts) out h in
      let a = term_again n e f r.0 t.negative t.term small.0 (omega arith) near r.1 in
      let rest = terms_again (n + 1) r.0 a.0 out ts small.1 (omega arith) a.2 r.2 in
      (rest.0, ap (λ (o : Option Edge). and_then o (λ more. edge_terms two siblings more ts)) a.1 ∙ rest.1)

  -- ---- bounds
  offset_again : (e f out : Edge) (o : Option SignedTerm) → IsReadable (offset_words o) → IsNear 0 f → edge_offset one siblings e o ≡ Some out
      → (again : Edge) × (edge_offset two siblings f o ≡ Some again)
  unfolding edge_term
  offset_again e f out None r near h = (f, refl)
  offset_again e f out (Some t) r near h = let a = term_again 0 e f out t.negative t.term (signed_small t.negative t.term r) (omega arith) near h in (a.0, a.1)

  abbrev from_base : ℕ → Edge
  from_base k = record { base = Some k; terms = []; bytes = pos 0 }

  end_again : (place elem : ℕ) (a : Addr) (out : Edge) → IsReadable (addr_words a) → bound_end one siblings place elem a ≡ Some out
      → (again : Edge) × (bound_end two siblings place elem a ≡ Some again)
  unfolding bound_end
  end_again place elem a out r h =
      let k = some_then (pointer_number siblings place elem a.pointer) (λ k. edge_offset one siblings (from_base k) a.offset) out h in
      let again = offset_again (from_base k.0) (from_base k.0) out a.offset (both_readable (a_name a.pointer) (offset_words a.offset) r).1 (omega arith) k.2 in
      (again.0, ap (λ (o : Option ℕ). and_then o (λ k. edge_offset two siblings (from_base k) a.offset)) k.1 ∙ again.1)

  inner : (ks : List Word) → IsReadable (in_parentheses ks) → IsReadable ks
  inner ks r = (both_readable ks (a_sign sign.ParenClose) (both_readable (a_sign sign.ParenOpen) (ks ++ a_sign sign.ParenClose) r).1).0

  annotated_again : (place elem : ℕ) (key : Element) (a : Annotation) (b : Bounds) → IsReadable (annotation_words a) → annotated_bounds one siblings place elem key a ≡ Some b
      → (c : Bounds) × (annotated_bounds two siblings place elem key a ≡ Some c)
  unfolding annotated_bounds both_ends
  annotated_again place elem key annotation.Safe b r h = (up_to two (pos 1), refl)
  annotated_again place elem key annotation.Sentinel b r h = (up_to two (pos 0), refl)
  annotated_again place elem key annotation.Nullterm b r h = (b, h)
  annotated_again place elem key (annotation.Count sum) b r h =
      let m = some_map (edge_terms one siblings own sum.terms) (λ hi. bounds.Within own hi) b h in
      let words = inner (sum_words sum.terms) (both_readable (a_keyword keyword.Count) (in_parentheses (sum_words sum.terms)) r).1 in
      let enough = terms_fit sum.terms in
      let less = words.words in
      let again = terms_again 0 own own m.0 sum.terms (sum_small sum.terms words) (omega arith) (omega arith) m.1 in
      (bounds.Within own again.0, ap (option_map (λ hi. bounds.Within own hi)) again.1)
    where
      terms_fit : (ts : List SignedTerm) → length ts ≤ length (sum_words ts)
      terms_fit ts = sum_few two few siblings ts
  annotated_again place elem key (annotation.Bound lo hi) b r h =
      let words = inner (addr_words lo ++ (a_sign sign.Comma ++ addr_words hi)) (both_readable (a_keyword keyword.Bound) (in_parentheses (addr_words lo ++ (a_sign sign.Comma ++ addr_words hi))) r).1 in
      let first = both_readable (addr_words lo) (a_sign sign.Comma ++ addr_words hi) words in
      let second = (both_readable (a_sign sign.Comma) (addr_words hi) first.1).1 in
      let l = some_then (bound_end one siblings place elem lo) (λ low. option_map (λ high. bounds.Within low high) (bound_end one siblings place elem hi)) b h in
      let g = some_map (bound_end one siblings place elem hi) (λ high. bounds.Within l.0 high) b l.2 in
      let low = end_again place elem lo l.0 first.0 l.1 in
      let high = end_again place elem hi g.0 second g.1 in
      (bounds.Within low.0 high.0, ap (λ (o : Option Edge). and_then o (λ low. option_map (λ high. bounds.Within low high) (bound_end two siblings place elem hi))) low.1 ∙ ap (option_map (λ high. bounds.Within low.0 high)) high.1)

  star_again : (plain : Unannotated) (place elem : ℕ) (key : Element) (o : Option Annotation) (b : Bounds) → IsReadable (noted_words o) → star_bounds one plain siblings place elem key o ≡ Some b
      → (c : Bounds) × (star_bounds two plain siblings place elem key o ≡ Some c)
  star_again plain place elem key None b r h = (default_bounds two plain, refl)
  star_again plain place elem key (Some a) b r h = annotated_again place elem key a b r h

-- ---- shapes
-- a shape that is declared again, bounds aside
abbrev pub ShapeAgain : Shape → Option Shape → Type 0
ShapeAgain x o = (y : Shape) × (o ≡ Some y) × (kind x ≡ kind y)

pub typed_again : (types : Types) (before now : List Extent) (plain : Unannotated) (siblings : Siblings) (place : ℕ) (t : TypeName) (x : Shape)
    → ((key : Element) → (key_extent now key).bytes ≤ 65536) → IsReadable (type_words t) → typed_shape types before plain siblings place t ≡ Some x
    → ShapeAgain x (typed_shape types now plain siblings place t)
unfolding typed_shape pointer_shape
typed_again types before now plain siblings place t x sizes r h =
    let a = some_then (pointed_key types t) (λ key. shape_behind types.elements before plain siblings place key (last_star t.stars)) x h in
    let b = by (last_star t.stars) refl a.0 a.2 in
    (b.0, ap (λ (o : Option Element). and_then o (λ key. shape_behind types.elements now plain siblings place key (last_star t.stars))) a.1 ∙ b.1, b.2)
  where
    by : (o : Option Star) → last_star t.stars ≡ o → (key : Element) → shape_behind types.elements before plain siblings place key o ≡ Some x
        → ShapeAgain x (shape_behind types.elements now plain siblings place key o)
    by None e key h = (x, h, refl)
    by (Some star) e key h =
        let words = (both_readable (base_words t.base) (stars_words t.stars) r).1 in
        let noted = star_readable t.stars _ star words e in
        let n = some_then (element_number types.elements key) (λ elem. pointer_to (key_extent before key).bytes plain siblings place elem key star) x h in
        let b = some_map (star_bounds (key_extent before key).bytes plain siblings place n.0 key star.annotation) (λ b. shape.Pointer n.0 b) x n.2 in
        let c = star_again (key_extent before key).bytes (key_extent now key).bytes (sizes key) siblings plain place n.0 key star.annotation b.0 noted b.1 in (
          shape.Pointer n.0 c.0,
          ap (λ (o : Option ℕ). and_then o (λ elem. pointer_to (key_extent now key).bytes plain siblings place elem key star)) n.1 ∙ ap (option_map (λ b. shape.Pointer n.0 b)) c.1,
          ap kind (sym b.2),
        )
