-- The longest sum, annotation, star and type name, one lemma for each way in which a reader ends.
use Rattle.std.proofs.Common.{◌≡◌, ◌≢◌, ◌<◌, ◌≤◌, List, [], ◌∷◌, length, None, Some, refl, ap, ◌∙◌, subst, inl, inr}
use Rattle.c_tree.specs.declared.keywords.Keyword.{Keyword}
use Rattle.c_tree.specs.declared.keywords.Keyword.TheVariants as keyword
use Rattle.c_tree.specs.declared.signs.Sign.TheVariants as sign
use Rattle.c_tree.specs.declared.types.Addr.{Addr}
use Rattle.c_tree.specs.declared.types.Annotation.{Annotation}
use Rattle.c_tree.specs.declared.types.Annotation.TheVariants as annotation
use Rattle.c_tree.specs.declared.types.Base.{Base}
use Rattle.c_tree.specs.declared.types.SignedTerm.{SignedTerm}
use Rattle.c_tree.specs.declared.types.Star.{Star}
use Rattle.c_tree.specs.declared.types.Sum.{Sum}
use Rattle.c_tree.specs.declared.types.TypeName.{TypeName}
use Rattle.c_tree.specs.declared.words.Token.{Token}
use Rattle.c_tree.specs.declared.words.Word.TheVariants as word
use Rattle.c_tree.specs.Reading.{Begins, Best, Within, Never, Each, Enclosed}
use Rattle.c_tree.specs.TypeGrammar.{SignedAt, FirstTermAt, SumAt, sum, AddrAt, EndsAt, ends, AnnotationAt, safe, sentinel, nullterm, count, bound, StarAt, plain, annotated, BaseAt, TypeNameAt, type_name}
use Rattle.c_expr.specs.Classes.{At, is_star, is_plus_or_minus, is_in_sums, is_annotation, is_after_unsigned, is_in_types}
use Rattle.c_expr.specs.Looking.{Lacks}
use Rattle.c_expr.proofs.Chains.{best_none, joined, each_none, each_on, followed}
use Rattle.c_expr.proofs.Classes.{star_in_sums, signs_in_sums, signs_apart, sums_part, annotations_in_types, further_in_types, stars_in_types, stars_apart, bases_apart}
use Rattle.c_expr.proofs.LongestTerm.{signed_starts}

-- ---- sums
pub terms_none : (w : List Token) → Best (SignedAt w) (At is_star) None → Best {X = List SignedTerm} (Each SignedAt w) (At is_in_sums) (Some ([], w))
terms_none w best = each_none SignedAt (At is_plus_or_minus) (At is_star) (At is_in_sums) signed_starts signs_apart signs_in_sums star_in_sums w best.covers

pub terms_on : (w u : List Token) (t : SignedTerm) (a : List SignedTerm × List Token) → length u < length w → length a.1 ≤ length u
    → Best (SignedAt w) (At is_star) (Some (t, u)) → Best {X = List SignedTerm} (Each SignedAt u) (At is_in_sums) (Some a)
    → Best {X = List SignedTerm} (Each SignedAt w) (At is_in_sums) (Some (t ∷ a.0, a.1))
terms_on w u t a fewer shorter first rest =
    each_on SignedAt (At is_plus_or_minus) (At is_star) (At is_in_sums) signed_starts signs_apart signs_in_sums star_in_sums w u t a fewer shorter first rest

abbrev sum_with : SignedTerm → List SignedTerm → Sum
sum_with t ts = record { terms = t ∷ ts }

no_sum : (w : List Token) → Best (FirstTermAt w) (At is_star) None → (v : List Token) (x : Sum) → SumAt w v x → ⊥
no_sum w best v x (sum r d) = best.covers _ _ r

pub sum_none : (w : List Token) → Best (FirstTermAt w) (At is_star) None → Best (SumAt w) (At is_in_sums) None
sum_none w best = best_none (SumAt w) (At is_in_sums) (no_sum w best)

sum_covers : (w u : List Token) (t : SignedTerm) (a : List SignedTerm × List Token) → length a.1 ≤ length u → Best (FirstTermAt w) (At is_star) (Some (t, u))
    → Best {X = List SignedTerm} (Each SignedAt u) (At is_in_sums) (Some a) → (v : List Token) (x : Sum) → SumAt w v x
    → Within {X = Sum} (At is_in_sums) v x (record { terms = t ∷ a.0 }, a.1)
sum_covers w u t a shorter first rest v x (sum {u = u'} r d) =
    joined SignedAt (At is_plus_or_minus) (At is_star) (At is_in_sums) sum_with signed_starts signs_apart star_in_sums u u' v t _ _ a shorter rest (first.covers u' _ r) d

pub sum_on : (w u : List Token) (t : SignedTerm) (a : List SignedTerm × List Token) → length a.1 ≤ length u → Best (FirstTermAt w) (At is_star) (Some (t, u))
    → Best {X = List SignedTerm} (Each SignedAt u) (At is_in_sums) (Some a) → Best {X = Sum} (SumAt w) (At is_in_sums) (Some (record { terms = t ∷ a.0 }, a.1))
sum_on w u t a shorter first rest = record { sound = sum first.sound rest.sound; covers = sum_covers w u t a shorter first rest }

-- ---- the two ends of a bound
no_low : (w : List Token) → Best (AddrAt w) (At is_in_sums) None → (v : List Token) (x : Addr × Addr) → EndsAt w v x → ⊥
no_low w best v x (ends d c e) = best.covers _ _ d

pub ends_none : (w : List Token) → Best (AddrAt w) (At is_in_sums) None → Best {X = Addr × Addr} (EndsAt w) (At is_in_sums) None
ends_none w best = best_none {X = Addr × Addr} (EndsAt w) (At is_in_sums) (no_low w best)

no_comma : (w u : List Token) (lo : Addr) → Best (AddrAt w) (At is_in_sums) (Some (lo, u)) → Lacks u (word.Sign sign.Comma) → (v : List Token) (x : Addr × Addr) → EndsAt w v x → ⊥
no_comma w u lo best lacks v x (ends {u = u'} {r = r'} d c e) = lacks r' (followed (AddrAt w) (At is_in_sums) (word.Sign sign.Comma) sums_part u u' r' lo _ best d c).1

pub ends_alone : (w u : List Token) (lo : Addr) → Best (AddrAt w) (At is_in_sums) (Some (lo, u)) → Lacks u (word.Sign sign.Comma) → Best {X = Addr × Addr} (EndsAt w) (At is_in_sums) None
ends_alone w u lo best lacks = best_none {X = Addr × Addr} (EndsAt w) (At is_in_sums) (no_comma w u lo best lacks)

no_high : (w u r : List Token) (lo : Addr) → Best (AddrAt w) (At is_in_sums) (Some (lo, u)) → Begins u (word.Sign sign.Comma) r → Best (AddrAt r) (At is_in_sums) None
    → (v : List Token) (x : Addr × Addr) → EndsAt w v x → ⊥
no_high w u r lo best comma high v x (ends {u = u'} {r = r'} {hi = hi} d c e) =
    let there = (followed (AddrAt w) (At is_in_sums) (word.Sign sign.Comma) sums_part u u' r' lo _ best d c).1 in
    let same : r' ≡ r = cc in high.covers v hi (subst (λ q. AddrAt q v hi) same e)

pub ends_half : (w u r : List Token) (lo : Addr) → Best (AddrAt w) (At is_in_sums) (Some (lo, u)) → Begins u (word.Sign sign.Comma) r → Best (AddrAt r) (At is_in_sums) None
    → Best {X = Addr × Addr} (EndsAt w) (At is_in_sums) None
ends_half w u r lo best comma high = best_none {X = Addr × Addr} (EndsAt w) (At is_in_sums) (no_high w u r lo best comma high)

ends_cover : (w u r q : List Token) (lo hi : Addr) → Best (AddrAt w) (At is_in_sums) (Some (lo, u)) → Begins u (word.Sign sign.Comma) r
    → Best (AddrAt r) (At is_in_sums) (Some (hi, q)) → (v : List Token) (x : Addr × Addr) → EndsAt w v x → Within {X = Addr × Addr} (At is_in_sums) v x ((lo, hi), q)
ends_cover w u r q lo hi best comma high v x (ends {u = u'} {r = r'} {lo = lo'} {hi = hi'} d c e) =
    let found = followed (AddrAt w) (At is_in_sums) (word.Sign sign.Comma) sums_part u u' r' lo _ best d c in
    let there = found.1 in
    let same : r' ≡ r = cc in by found.0 (high.covers v hi' (subst (λ q. AddrAt q v hi') same e))
  where
    by : lo ≡ lo' → Within (At is_in_sums) v hi' (hi, q) → Within {X = Addr × Addr} (At is_in_sums) v (lo', hi') ((lo, hi), q)
    by k (inl s) = inl (ap (λ a. (a, hi)) k ∙ ap (λ a. (lo', a)) s.0, s.1)
    by k (inr p) = inr p

pub ends_both : (w u r q : List Token) (lo hi : Addr) → Best (AddrAt w) (At is_in_sums) (Some (lo, u)) → Begins u (word.Sign sign.Comma) r
    → Best (AddrAt r) (At is_in_sums) (Some (hi, q)) → Best {X = Addr × Addr} (EndsAt w) (At is_in_sums) (Some ((lo, hi), q))
ends_both w u r q lo hi best comma high = record { sound = ends best.sound comma high.sound; covers = ends_cover w u r q lo hi best comma high }

-- ---- annotations
-- what the annotation x is whose first word is k, where u stands after that word and v after the annotation
abbrev AnnotationAfter : Keyword → List Token → List Token → Annotation → Type 0
AnnotationAfter keyword.Safe u v x = (annotation.Safe ≡ x) × (u ≡ v)
AnnotationAfter keyword.Sentinel u v x = (annotation.Sentinel ≡ x) × (u ≡ v)
AnnotationAfter keyword.Nullterm u v x = (annotation.Nullterm ≡ x) × (u ≡ v)
AnnotationAfter keyword.Count u v x = (n : Sum) × Enclosed SumAt u v n × (annotation.Count n ≡ x)
AnnotationAfter keyword.Bound u v x = (a : Addr × Addr) × Enclosed EndsAt u v a × (annotation.Bound a.0 a.1 ≡ x)
AnnotationAfter _ u v x = ⊥

annotation_after : (w u v : List Token) (k : Keyword) (x : Annotation) → Begins w (word.Keyword k) u → AnnotationAt w v x → AnnotationAfter k u v x
annotation_after w u v k x b (safe c) = let is : keyword.Safe ≡ k = cc in let same : u ≡ v = cc in subst (λ q. AnnotationAfter q u v annotation.Safe) is (refl, same)
annotation_after w u v k x b (sentinel c) = let is : keyword.Sentinel ≡ k = cc in let same : u ≡ v = cc in subst (λ q. AnnotationAfter q u v annotation.Sentinel) is (refl, same)
annotation_after w u v k x b (nullterm c) = let is : keyword.Nullterm ≡ k = cc in let same : u ≡ v = cc in subst (λ q. AnnotationAfter q u v annotation.Nullterm) is (refl, same)
annotation_after w u v k x b (count {u = u'} {n = n} c d) = let is : keyword.Count ≡ k = cc in let same : u' ≡ u = cc in
    subst (λ q. AnnotationAfter q u v (annotation.Count n)) is (n, subst (λ q. Enclosed SumAt q v n) same d, refl)
annotation_after w u v k x b (bound {u = u'} {lo = lo} {hi = hi} c d) = let is : keyword.Bound ≡ k = cc in let same : u' ≡ u = cc in
    subst (λ q. AnnotationAfter q u v (annotation.Bound lo hi)) is ((lo, hi), subst (λ q. Enclosed {X = Addr × Addr} EndsAt q v (lo, hi)) same d, refl)

pub annotation_starts : (w v : List Token) (x : Annotation) → AnnotationAt w v x → At is_annotation w
annotation_starts w v x (safe c) = rw c refl
annotation_starts w v x (sentinel c) = rw c refl
annotation_starts w v x (nullterm c) = rw c refl
annotation_starts w v x (count c d) = rw c refl
annotation_starts w v x (bound c d) = rw c refl

no_keyword : (w : List Token) → ((k : Keyword) → Lacks w (word.Keyword k)) → (v : List Token) (x : Annotation) → AnnotationAt w v x → ⊥
no_keyword w lacks v x (safe c) = lacks _ _ c
no_keyword w lacks v x (sentinel c) = lacks _ _ c
no_keyword w lacks v x (nullterm c) = lacks _ _ c
no_keyword w lacks v x (count c d) = lacks _ _ c
no_keyword w lacks v x (bound c d) = lacks _ _ c

pub annotation_none : (w : List Token) → ((k : Keyword) → Lacks w (word.Keyword k)) → Best (AnnotationAt w) Never None
annotation_none w lacks = best_none (AnnotationAt w) Never (no_keyword w lacks)

other_word : (u v : List Token) (k : Keyword) (x : Annotation) → k ≢ keyword.Safe → k ≢ keyword.Sentinel → k ≢ keyword.Nullterm → k ≢ keyword.Count → k ≢ keyword.Bound
    → AnnotationAfter k u v x → ⊥
other_word u v keyword.Safe x a b c d e h = a refl
other_word u v keyword.Sentinel x a b c d e h = b refl
other_word u v keyword.Nullterm x a b c d e h = c refl
other_word u v keyword.Count x a b c d e h = d refl
other_word u v keyword.Bound x a b c d e h = e refl
other_word u v _ x a b c d e h = h

pub annotation_other : (w u : List Token) (k : Keyword) → Begins w (word.Keyword k) u → k ≢ keyword.Safe → k ≢ keyword.Sentinel → k ≢ keyword.Nullterm → k ≢ keyword.Count
    → k ≢ keyword.Bound → Best (AnnotationAt w) Never None
annotation_other w u k begins a b c d e = best_none (AnnotationAt w) Never (λ v x h. other_word u v k x a b c d e (annotation_after w u v k x begins h))

pub annotation_safe : (w u : List Token) → Begins w (word.Keyword keyword.Safe) u → Best (AnnotationAt w) Never (Some (annotation.Safe, u))
annotation_safe w u b = record { sound = safe b; covers = λ v x d. inl (annotation_after w u v keyword.Safe x b d) }

pub annotation_sentinel : (w u : List Token) → Begins w (word.Keyword keyword.Sentinel) u → Best (AnnotationAt w) Never (Some (annotation.Sentinel, u))
annotation_sentinel w u b = record { sound = sentinel b; covers = λ v x d. inl (annotation_after w u v keyword.Sentinel x b d) }

pub annotation_nullterm : (w u : List Token) → Begins w (word.Keyword keyword.Nullterm) u → Best (AnnotationAt w) Never (Some (annotation.Nullterm, u))
annotation_nullterm w u b = record { sound = nullterm b; covers = λ v x d. inl (annotation_after w u v keyword.Nullterm x b d) }

pub count_none : (w u : List Token) → Begins w (word.Keyword keyword.Count) u → Best (Enclosed SumAt u) Never None → Best (AnnotationAt w) Never None
count_none w u b best = best_none (AnnotationAt w) Never (λ v x d. let h = annotation_after w u v keyword.Count x b d in best.covers v h.0 h.1)

count_covers : (w u q : List Token) (n : Sum) → Begins w (word.Keyword keyword.Count) u → Best (Enclosed SumAt u) Never (Some (n, q)) → (v : List Token) (x : Annotation)
    → AnnotationAfter keyword.Count u v x → Within Never v x (annotation.Count n, q)
count_covers w u q n b best v x (m, d, e) = by (best.covers v m d)
  where
    by : Within Never v m (n, q) → Within Never v x (annotation.Count n, q)
    by (inl s) = inl (ap (λ a. annotation.Count a) s.0 ∙ e, s.1)
    by (inr p) = absurd p.1

pub count_some : (w u q : List Token) (n : Sum) → Begins w (word.Keyword keyword.Count) u → Best (Enclosed SumAt u) Never (Some (n, q)) → Best (AnnotationAt w) Never (Some (annotation.Count n, q))
count_some w u q n b best = record { sound = count b best.sound; covers = λ v x d. count_covers w u q n b best v x (annotation_after w u v keyword.Count x b d) }

pub bound_none : (w u : List Token) → Begins w (word.Keyword keyword.Bound) u → Best {X = Addr × Addr} (Enclosed EndsAt u) Never None → Best (AnnotationAt w) Never None
bound_none w u b best = best_none (AnnotationAt w) Never (λ v x d. let h = annotation_after w u v keyword.Bound x b d in best.covers v h.0 h.1)

bound_covers : (w u q : List Token) (a : Addr × Addr) → Begins w (word.Keyword keyword.Bound) u → Best {X = Addr × Addr} (Enclosed EndsAt u) Never (Some (a, q)) → (v : List Token) (x : Annotation)
    → AnnotationAfter keyword.Bound u v x → Within Never v x (annotation.Bound a.0 a.1, q)
bound_covers w u q a b best v x (m, d, e) = by (best.covers v m d)
  where
    by : Within {X = Addr × Addr} Never v m (a, q) → Within Never v x (annotation.Bound a.0 a.1, q)
    by (inl s) = let f : Addr × Addr → Annotation = λ p. annotation.Bound p.0 p.1 in inl (ap f s.0 ∙ e, s.1)
    by (inr p) = absurd p.1

pub bound_some : (w u q : List Token) (a : Addr × Addr) → Begins w (word.Keyword keyword.Bound) u → Best {X = Addr × Addr} (Enclosed EndsAt u) Never (Some (a, q))
    → Best (AnnotationAt w) Never (Some (annotation.Bound a.0 a.1, q))
bound_some w u q a b best = record { sound = bound b best.sound; covers = λ v x d. bound_covers w u q a b best v x (annotation_after w u v keyword.Bound x b d) }

-- ---- stars
star_starts : (w v : List Token) (x : Star) → StarAt w v x → At is_star w
star_starts w v x (plain b) = rw b refl
star_starts w v x (annotated b d) = rw b refl

no_star : (w : List Token) → Lacks w (word.Sign sign.Star) → (v : List Token) (x : Star) → StarAt w v x → ⊥
no_star w lacks v x (plain b) = lacks _ b
no_star w lacks v x (annotated b d) = lacks _ b

pub star_none : (w : List Token) → Lacks w (word.Sign sign.Star) → Best (StarAt w) (At is_annotation) None
star_none w lacks = best_none (StarAt w) (At is_annotation) (no_star w lacks)

plain_covers : (w u : List Token) → Begins w (word.Sign sign.Star) u → Best (AnnotationAt u) Never None → (v : List Token) (x : Star) → StarAt w v x
    → Within {X = Star} (At is_annotation) v x (record { annotation = None }, u)
plain_covers w u b best v x (plain c) = let same : u ≡ v = cc in inl (refl, same)
plain_covers w u b best v x (annotated {u = u'} {a = a} c d) = let same : u' ≡ u = cc in absurd (best.covers v a (subst (λ q. AnnotationAt q v a) same d))

pub star_plain : (w u : List Token) → Begins w (word.Sign sign.Star) u → Best (AnnotationAt u) Never None
    → Best {X = Star} (StarAt w) (At is_annotation) (Some (record { annotation = None }, u))
star_plain w u b best = record { sound = plain b; covers = plain_covers w u b best }

annotated_covers : (w u r : List Token) (a : Annotation) → Begins w (word.Sign sign.Star) u → length r < length u → Best (AnnotationAt u) Never (Some (a, r))
    → (v : List Token) (x : Star) → StarAt w v x → Within {X = Star} (At is_annotation) v x (record { annotation = Some a }, r)
annotated_covers w u r a b shorter best v x (plain c) = let same : u ≡ v = cc in
    inr (subst (λ q. length r < length q) same shorter, subst (At is_annotation) same (annotation_starts u r a best.sound))
annotated_covers w u r a b shorter best v x (annotated {u = u'} {a = a'} c d) = let same : u' ≡ u = cc in by (best.covers v a' (subst (λ q. AnnotationAt q v a') same d))
  where
    by : Within Never v a' (a, r) → Within {X = Star} (At is_annotation) v (record { annotation = Some a' }) (record { annotation = Some a }, r)
    by (inl s) = let f : Annotation → Star = λ y. record { annotation = Some y } in inl (ap f s.0, s.1)
    by (inr p) = absurd p.1

pub star_annotated : (w u r : List Token) (a : Annotation) → Begins w (word.Sign sign.Star) u → length r < length u → Best (AnnotationAt u) Never (Some (a, r))
    → Best {X = Star} (StarAt w) (At is_annotation) (Some (record { annotation = Some a }, r))
star_annotated w u r a b shorter best = record { sound = annotated b best.sound; covers = annotated_covers w u r a b shorter best }

-- ---- type names
pub stars_none : (w : List Token) → Best (StarAt w) (At is_annotation) None → Best {X = List Star} (Each StarAt w) (At is_in_types) (Some ([], w))
stars_none w best = each_none StarAt (At is_star) (At is_annotation) (At is_in_types) star_starts stars_apart stars_in_types annotations_in_types w best.covers

pub stars_on : (w u : List Token) (t : Star) (a : List Star × List Token) → length u < length w → length a.1 ≤ length u
    → Best (StarAt w) (At is_annotation) (Some (t, u)) → Best {X = List Star} (Each StarAt u) (At is_in_types) (Some a)
    → Best {X = List Star} (Each StarAt w) (At is_in_types) (Some (t ∷ a.0, a.1))
stars_on w u t a fewer shorter first rest =
    each_on StarAt (At is_star) (At is_annotation) (At is_in_types) star_starts stars_apart stars_in_types annotations_in_types w u t a fewer shorter first rest

abbrev type_with : Base → List Star → TypeName
type_with b ss = record { base = b; stars = ss }

no_base : (w : List Token) → Best (BaseAt w) (At is_after_unsigned) None → (v : List Token) (x : TypeName) → TypeNameAt w v x → ⊥
no_base w best v x (type_name r d) = best.covers _ _ r

pub type_none : (w : List Token) → Best (BaseAt w) (At is_after_unsigned) None → Best (TypeNameAt w) (At is_in_types) None
type_none w best = best_none (TypeNameAt w) (At is_in_types) (no_base w best)

type_covers : (w u : List Token) (b : Base) (a : List Star × List Token) → length a.1 ≤ length u → Best (BaseAt w) (At is_after_unsigned) (Some (b, u))
    → Best {X = List Star} (Each StarAt u) (At is_in_types) (Some a) → (v : List Token) (x : TypeName) → TypeNameAt w v x
    → Within {X = TypeName} (At is_in_types) v x (record { base = b; stars = a.0 }, a.1)
type_covers w u b a shorter first rest v x (type_name {u = u'} r d) =
    joined StarAt (At is_star) (At is_after_unsigned) (At is_in_types) type_with star_starts bases_apart further_in_types u u' v b _ _ a shorter rest (first.covers u' _ r) d

pub type_on : (w u : List Token) (b : Base) (a : List Star × List Token) → length a.1 ≤ length u → Best (BaseAt w) (At is_after_unsigned) (Some (b, u))
    → Best {X = List Star} (Each StarAt u) (At is_in_types) (Some a) → Best {X = TypeName} (TypeNameAt w) (At is_in_types) (Some (record { base = b; stars = a.0 }, a.1))
type_on w u b a shorter first rest = record { sound = type_name first.sound rest.sound; covers = type_covers w u b a shorter first rest }
