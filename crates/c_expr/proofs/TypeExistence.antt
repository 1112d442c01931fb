-- Each list of words has its longest type name, or none: what the readers answer where memory is not wanting.
use Rattle.std.proofs.Common.{◌≡◌, ℕ, ◌<◌, ◌≤◌, List, [], ◌∷◌, length, Option, None, Some, IsTrue, refl, subst, inl, inr, le_refl, zero, suc, arith}
use Rattle.c_tree.specs.declared.keywords.Keyword.TheVariants as keyword
use Rattle.c_tree.specs.declared.signs.Sign.TheVariants as sign
use Rattle.c_tree.specs.declared.types.Addr.{Addr}
use Rattle.c_tree.specs.declared.types.Annotation.{Annotation}
use Rattle.c_tree.specs.declared.types.Annotation.TheVariants as annotation
use Rattle.c_tree.specs.declared.types.Base.{Base}
use Rattle.c_tree.specs.declared.types.SignedTerm.{SignedTerm}
use Rattle.c_tree.specs.declared.types.Star.{Star}
use Rattle.c_tree.specs.declared.words.Token.{Token}
use Rattle.c_tree.specs.declared.words.Word.TheVariants as word
use Rattle.c_tree.specs.Reading.{Front, front_of, Begins, Best, Never, Each, Enclosed}
use Rattle.c_tree.specs.Reading.Front.{front}
use Rattle.c_tree.specs.TypeGrammar as types
use Rattle.c_tree.specs.TypeGrammar.{SignedAt, SumAt, AddrAt, EndsAt, AnnotationAt, safe, sentinel, nullterm, count, bound, StarAt, annotated, TypeNameAt, InParens}
use Rattle.c_expr.specs.Classes.{begins_in, At, is_in_sums, is_annotation, is_in_types}
use Rattle.c_expr.specs.TypeReading.{base_of, signed_of, first_of, addr_of}
use Rattle.c_expr.proofs.Begins.{begins_shrinks}
use Rattle.c_expr.proofs.Chains.{best_none, enclosed_unopened, enclosed_empty, enclosed_unclosed, enclosed_closed}
use Rattle.c_expr.proofs.Classes.{sums_close, types_close}
use Rattle.c_expr.proofs.LongestBase.{base_is}
use Rattle.c_expr.proofs.LongestTerm.{signed_is, first_is, addr_is, signed_shrinks}
use Rattle.c_expr.proofs.LongestType.{terms_none, terms_on, sum_none, sum_on, ends_none, ends_alone, ends_half, ends_both, annotation_starts, annotation_safe, annotation_sentinel, annotation_nullterm, count_none, count_some, bound_none, bound_some, star_none, star_plain, star_annotated, stars_none, stars_on, type_none, type_on}
use Rattle.c_expr.proofs.Looks.{Sees, sees_open, sees_close, sees_comma, sees_star}
use Rattle.c_expr.proofs.Spans.{span_shrinks, enclosed_span, sum_span, ends_span, annotation_span}

-- the longest phrase at w, or that there is none
abbrev pub Longest : {X : Type 0} → (List Token → List Token → X → Type 0) → (List Token → Type 0) → List Token → Type 0
Longest {X} R goes w = (a : Option (X × List Token)) × Best (R w) goes a

-- ---- in parentheses
module _ {X : Type 0} (R : List Token → List Token → X → Type 0) (goes : List Token → Type 0)
    (closes : (v u : List Token) → Begins v (word.Sign sign.ParenClose) u → goes v → ⊥) where
  shut : (w u : List Token) (a : X × List Token) → Begins w (word.Sign sign.ParenOpen) u → Best (R u) goes (Some a) → Sees a.1 (word.Sign sign.ParenClose) → Longest (Enclosed R) Never w
  shut w u a b best (inl (v, c)) = (Some (a.0, v), enclosed_closed R goes closes w u a.1 v a.0 b best c)
  shut w u a b best (inr lacks) = (None, enclosed_unclosed R goes closes w u a.1 a.0 b best lacks)

  held : (w u : List Token) → Begins w (word.Sign sign.ParenOpen) u → Longest R goes u → Longest (Enclosed R) Never w
  held w u b (None, best) = (None, enclosed_empty R goes closes w u b best)
  held w u b (Some a, best) = shut w u a b best (sees_close a.1)

  enclosed_by : (w : List Token) → ((u : List Token) → Longest R goes u) → Sees w (word.Sign sign.ParenOpen) → Longest (Enclosed R) Never w
  enclosed_by w inside (inl (u, b)) = held w u b (inside u)
  enclosed_by w inside (inr lacks) = (None, enclosed_unopened R goes closes w lacks)

  pub enclosed_exists : (w : List Token) → ((u : List Token) → Longest R goes u) → Longest (Enclosed R) Never w
  enclosed_exists w inside = enclosed_by w inside (sees_open w)

-- ---- sums
abbrev Terms : List Token → Type 0
Terms w = (a : List SignedTerm × List Token) × Best {X = List SignedTerm} (Each SignedAt w) (At is_in_sums) (Some a) × (length a.1 ≤ length w)

terms_step : (w : List Token) → ((u : List Token) → length u < length w → Terms u) → (o : Option (SignedTerm × List Token)) → o ≡ signed_of w → Terms w
terms_step w rest None e = (([], w), terms_none w (signed_is w None e), le_refl (length w))
terms_step w rest (Some a) e =
    let first = signed_is w (Some a) e in
    let fewer = signed_shrinks w a.1 a.0 first.sound in
    let more = rest a.1 fewer in
    let size = more.2 in
    ((a.0 ∷ more.0.0, more.0.1), terms_on w a.1 a.0 more.0 fewer more.2 first more.1, omega arith)

terms_exist : (n : ℕ) (w : List Token) → length w < n → Terms w
terms_exist zero w h = absurd (omega arith)
terms_exist (suc n) w h = terms_step w (λ u fewer. terms_exist n u (omega arith)) (signed_of w) refl

sum_by : (w : List Token) → (o : Option (SignedTerm × List Token)) → o ≡ first_of w → Longest SumAt (At is_in_sums) w
sum_by w None e = (None, sum_none w (first_is w None e))
sum_by w (Some t) e = let more = terms_exist (suc (length t.1)) t.1 (omega arith) in (Some (record { terms = t.0 ∷ more.0.0 }, more.0.1), sum_on w t.1 t.0 more.0 more.2 (first_is w (Some t) e) more.1)

sum_exists : (w : List Token) → Longest SumAt (At is_in_sums) w
sum_exists w = sum_by w (first_of w) refl

-- ---- the ends of bounds
ends_third : (w u r : List Token) (lo : Addr) → Best (AddrAt w) (At is_in_sums) (Some (lo, u)) → Begins u (word.Sign sign.Comma) r → (o : Option (Addr × List Token)) → o ≡ addr_of r
    → Longest {X = Addr × Addr} EndsAt (At is_in_sums) w
ends_third w u r lo low c None e = (None, ends_half w u r lo low c (addr_is r None e))
ends_third w u r lo low c (Some a) e = (Some ((lo, a.0), a.1), ends_both w u r a.1 lo a.0 low c (addr_is r (Some a) e))

ends_second : (w u : List Token) (lo : Addr) → Best (AddrAt w) (At is_in_sums) (Some (lo, u)) → Sees u (word.Sign sign.Comma) → Longest {X = Addr × Addr} EndsAt (At is_in_sums) w
ends_second w u lo low (inl (r, c)) = ends_third w u r lo low c (addr_of r) refl
ends_second w u lo low (inr lacks) = (None, ends_alone w u lo low lacks)

ends_by : (w : List Token) (o : Option (Addr × List Token)) → o ≡ addr_of w → Longest {X = Addr × Addr} EndsAt (At is_in_sums) w
ends_by w None e = (None, ends_none w (addr_is w None e))
ends_by w (Some a) e = ends_second w a.1 a.0 (addr_is w (Some a) e) (sees_comma a.1)

ends_exist : (w : List Token) → Longest {X = Addr × Addr} EndsAt (At is_in_sums) w
ends_exist w = ends_by w (addr_of w) refl

-- ---- annotations
counted : (w u : List Token) → Begins w (word.Keyword keyword.Count) u → Longest (Enclosed SumAt) Never u → Longest AnnotationAt Never w
counted w u b (None, best) = (None, count_none w u b best)
counted w u b (Some a, best) = (Some (annotation.Count a.0, a.1), count_some w u a.1 a.0 b best)

bounded : (w u : List Token) → Begins w (word.Keyword keyword.Bound) u → Longest {X = Addr × Addr} (Enclosed EndsAt) Never u → Longest AnnotationAt Never w
bounded w u b (None, best) = (None, bound_none w u b best)
bounded w u b (Some a, best) = (Some (annotation.Bound a.0.0 a.0.1, a.1), bound_some w u a.1 a.0 b best)

annotation_by : (w : List Token) (f : Front) → front_of w ≡ f → Longest AnnotationAt Never w
annotation_by w (front (word.Keyword keyword.Safe) u) h = (Some (annotation.Safe, u), annotation_safe w u h)
annotation_by w (front (word.Keyword keyword.Sentinel) u) h = (Some (annotation.Sentinel, u), annotation_sentinel w u h)
annotation_by w (front (word.Keyword keyword.Nullterm) u) h = (Some (annotation.Nullterm, u), annotation_nullterm w u h)
annotation_by w (front (word.Keyword keyword.Count) u) h = counted w u h (enclosed_exists SumAt (At is_in_sums) sums_close u sum_exists)
annotation_by w (front (word.Keyword keyword.Bound) u) h = bounded w u h (enclosed_exists {X = Addr × Addr} EndsAt (At is_in_sums) sums_close u ends_exist)
annotation_by w _ h = (None, best_none (AnnotationAt w) Never (λ v x d. let clash = subst (λ f. IsTrue (begins_in is_annotation f)) h (annotation_starts w v x d) in cc))

annotation_exists : (w : List Token) → Longest AnnotationAt Never w
annotation_exists w = annotation_by w (front_of w) refl

-- ---- stars
annotation_shrinks : (w v : List Token) (x : Annotation) → AnnotationAt w v x → length v < length w
annotation_shrinks w v x (safe b) = begins_shrinks w b
annotation_shrinks w v x (sentinel b) = begins_shrinks w b
annotation_shrinks w v x (nullterm b) = begins_shrinks w b
annotation_shrinks w v x (count b d) = let fewer = begins_shrinks w b in let rest = span_shrinks (enclosed_span SumAt (λ w v x s. sum_span s) d) in omega arith
annotation_shrinks w v x (bound b d) = let fewer = begins_shrinks w b in let rest = span_shrinks (enclosed_span {X = Addr × Addr} EndsAt (λ w v x s. ends_span s) d) in omega arith

starred : (w u : List Token) → Begins w (word.Sign sign.Star) u → Longest AnnotationAt Never u → Longest StarAt (At is_annotation) w
starred w u b (None, best) = (Some (record { annotation = None }, u), star_plain w u b best)
starred w u b (Some a, best) = (Some (record { annotation = Some a.0 }, a.1), star_annotated w u a.1 a.0 b (annotation_shrinks u a.1 a.0 best.sound) best)

star_by : (w : List Token) → Sees w (word.Sign sign.Star) → Longest StarAt (At is_annotation) w
star_by w (inl (u, b)) = starred w u b (annotation_exists u)
star_by w (inr lacks) = (None, star_none w lacks)

star_shrinks : (w v : List Token) (x : Star) → StarAt w v x → length v < length w
star_shrinks w v x (types.plain b) = begins_shrinks w b
star_shrinks w v x (annotated b d) = let fewer = begins_shrinks w b in let rest = span_shrinks (annotation_span d) in omega arith

abbrev pub Stars : List Token → Type 0
Stars w = (a : List Star × List Token) × Best {X = List Star} (Each StarAt w) (At is_in_types) (Some a) × (length a.1 ≤ length w)

stars_step : (w : List Token) → ((u : List Token) → length u < length w → Stars u) → Longest StarAt (At is_annotation) w → Stars w
stars_step w rest (None, best) = (([], w), stars_none w best, le_refl (length w))
stars_step w rest (Some a, best) =
    let fewer = star_shrinks w a.1 a.0 best.sound in
    let more = rest a.1 fewer in
    let size = more.2 in
    ((a.0 ∷ more.0.0, more.0.1), stars_on w a.1 a.0 more.0 fewer more.2 best more.1, omega arith)

pub stars_exist : (n : ℕ) (w : List Token) → length w < n → Stars w
stars_exist zero w h = absurd (omega arith)
stars_exist (suc n) w h = stars_step w (λ u fewer. stars_exist n u (omega arith)) (star_by w (sees_star w))

-- ---- type names
type_by : (w : List Token) (o : Option (Base × List Token)) → o ≡ base_of w → Longest TypeNameAt (At is_in_types) w
type_by w None e = (None, type_none w (base_is w None e))
type_by w (Some b) e = let more = stars_exist (suc (length b.1)) b.1 (omega arith) in
    (Some (record { base = b.0; stars = more.0.0 }, more.0.1), type_on w b.1 b.0 more.0 more.2 (base_is w (Some b) e) more.1)

pub type_exists : (w : List Token) → Longest TypeNameAt (At is_in_types) w
type_exists w = type_by w (base_of w) refl

pub parens_exist : (w : List Token) → Longest InParens Never w
parens_exist w = enclosed_exists TypeNameAt (At is_in_types) types_close w type_exists
