-- The longest of any number of phrases that have one end each, and of one such phrase or more.
use Rattle.std.proofs.Common.{◌≡◌, ◌↔◌, ◌+◌, ◌<◌, ◌≤◌, Bool, true, false, IsTrue, List, [], ◌∷◌, length, None, Some, refl, ap, ◌∙◌, inl, inr, arith}
use Rattle.std.proofs.lemmas.List.{length-append}
use Rattle.c_tree.specs.declared.words.Token.{Token}
use Rattle.c_tree.specs.declared.words.Word.{Word}
use Rattle.c_tree.specs.Reading.{Best, Within, Never, Each, each_end, each_more}
use Rattle.c_expr.proofs.Chains.{best_none, each_none, each_on}
use Rattle.c_decl.specs.Sequences.{Many, many}
use Rattle.c_decl.proofs.Walks.{Passage}

pub passage_shrinks : {w v : List Token} {ks : List Word} → Passage w v ks → length v ≤ length w
passage_shrinks {w} {v} p = let sizes : length w ≡ length p.tokens + length v = ap length p.parts ∙ length-append p.tokens v in omega arith

module _ {X : Type 0} (R : List Token → List Token → X → Type 0) (starts : List Token → Type 0) (starting : (w v : List Token) (x : X) → R w v x → starts w) where
  -- where none begins, there are none
  pub once_none : (w : List Token) → Best (R w) Never None → Best {X = List X} (Each R w) starts (Some ([], w))
  once_none w best = each_none R starts Never starts starting (λ v s n. n) (λ v s. s) (λ v n. absurd n) w best.covers

  -- the first, and the rest
  pub once_on : (w u : List Token) (x : X) (a : List X × List Token) → length u < length w → length a.1 ≤ length u → Best (R w) Never (Some (x, u))
      → Best {X = List X} (Each R u) starts (Some a) → Best {X = List X} (Each R w) starts (Some (x ∷ a.0, a.1))
  once_on w u x a fewer shorter first rest = each_on R starts Never starts starting (λ v s n. n) (λ v s. s) (λ v n. absurd n) w u x a fewer shorter first rest

-- ---- one phrase or more
many_each : {X : Type 0} (R : List Token → List Token → X → Type 0) (w v : List Token) (xs : List X) → Many R w v xs → Each R w v xs
many_each R w v xs (many d e) = each_more d e

each_many : {X : Type 0} (R : List Token → List Token → X → Type 0) (w v : List Token) (xs : List X) → Each R w v xs → (xs ≡ [] → ⊥) → Many R w v xs
each_many R w v xs each_end some = absurd (some refl)
each_many R w v xs (each_more d e) some = many d e

none_taken : {X : Type 0} (R : List Token → List Token → X → Type 0) (w u : List Token) (xs : List X) → Each R w u xs → xs ≡ [] → w ≡ u
none_taken R w u xs each_end e = refl
none_taken R w u xs (each_more d f) e = cc

no_many : {X : Type 0} (R : List Token → List Token → X → Type 0) (starts : List Token → Type 0) → ((w v : List Token) (x : X) → R w v x → length v ≤ length w) → (w u : List Token)
    → Best {X = List X} (Each R w) starts (Some ([], u)) → (v : List Token) (xs : List X) → Many R w v xs → ⊥
no_many {X = X} R starts shrinks w u best v xs (many {u = r} {x = x} d e) = by (best.covers r (x ∷ []) (each_more d each_end))
  where
    by : Within {X = List X} starts r (x ∷ []) ([], u) → ⊥
    by (inl e) = let clash : [] ≡ x ∷ [] = e.0 in cc
    by (inr p) = let there : length w ≡ length u = ap length (none_taken R w u [] best.sound refl) in let fewer = p.0 in absurd (omega (arith, shrinks w r x d))

pub many_none : {X : Type 0} (R : List Token → List Token → X → Type 0) (starts : List Token → Type 0) → ((w v : List Token) (x : X) → R w v x → length v ≤ length w) → (w u : List Token)
    → Best {X = List X} (Each R w) starts (Some ([], u)) → Best {X = List X} (Many R w) starts None
many_none {X = X} R starts shrinks w u best = best_none {X = List X} (Many R w) starts (no_many R starts shrinks w u best)

pub many_some : {X : Type 0} (R : List Token → List Token → X → Type 0) (starts : List Token → Type 0) (w u : List Token) (xs : List X) → (xs ≡ [] → ⊥)
    → Best {X = List X} (Each R w) starts (Some (xs, u)) → Best {X = List X} (Many R w) starts (Some (xs, u))
many_some R starts w u xs some best = record { sound = each_many R w u xs best.sound some; covers = λ v ys d. best.covers v ys (many_each R w v ys d) }

-- an empty list and one that is not, by what `is_empty` says
pub is_nothing : {X : Type 0} (b : Bool) (xs : List X) → IsTrue b ↔ (xs ≡ []) → IsTrue b → xs ≡ []
is_nothing b xs e h = e.0 h

pub is_something : {X : Type 0} (b : Bool) (xs : List X) → IsTrue b ↔ (xs ≡ []) → b ≡ false → xs ≡ [] → ⊥
is_something b xs e h z = let yes : b ≡ true = e.1 z in cc
