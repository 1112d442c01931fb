-- The longest of a phrase, of any number of phrases, and of a phrase in parentheses, from the longest of their parts.
use Rattle.std.proofs.Common.{◌≡◌, ◌<◌, ◌≤◌, List, [], ◌∷◌, length, Option, None, Some, subst, refl, sym, ap, ◌∙◌, inl, inr, arith}
use Rattle.c_tree.specs.declared.signs.Sign.TheVariants as sign
use Rattle.c_tree.specs.declared.words.Token.{Token}
use Rattle.c_tree.specs.declared.words.Word.{Word}
use Rattle.c_tree.specs.declared.words.Word.TheVariants as word
use Rattle.c_tree.specs.Reading.{Begins, Best, Within, Covered, Never, Each, each_end, each_more, Enclosed, enclosed}
use Rattle.c_expr.specs.Looking.{Lacks}

-- where no phrase begins there is no answer
pub best_none : {X : Type 0} (R : List Token → X → Type 0) (goes : List Token → Type 0) → ((v : List Token) (x : X) → R v x → ⊥) → Best R goes None
best_none R goes h = record { sound = tt; covers = h }

-- no phrase begins where the longest is missing
pub none_begins : {X : Type 0} (R : List Token → X → Type 0) (goes : List Token → Type 0) → Best R goes None → (v : List Token) (x : X) → R v x → ⊥
none_begins R goes best v x d = best.covers v x d

-- words at which more may go on
pub covered_weaker : {X : Type 0} {goes more : List Token → Type 0} → ((v : List Token) → goes v → more v) → (v : List Token) (x : X)
    (a : Option (X × List Token)) → Covered goes v x a → Covered more v x a
covered_weaker h v x None c = c
covered_weaker h v x (Some a) (inl e) = inl e
covered_weaker h v x (Some a) (inr p) = inr (p.0, h v p.1)

pub best_weaker : {X : Type 0} {R : List Token → X → Type 0} {goes more : List Token → Type 0} → ((v : List Token) → goes v → more v)
    → (a : Option (X × List Token)) → Best R goes a → Best R more a
best_weaker h a best = record { sound = best.sound; covers = λ v x d. covered_weaker h v x a (best.covers v x d) }

-- the phrases R begin at `starts`, and a head before them goes on at `goes`, which are never the same words
module _ {X H Y : Type 0} (R : List Token → List Token → X → Type 0) (starts goes more : List Token → Type 0) (f : H → List X → Y)
    (starting : (w v : List Token) (x : X) → R w v x → starts w) (apart : (w : List Token) → starts w → goes w → ⊥)
    (more_goes : (w : List Token) → goes w → more w) where
  -- the longest head, and the longest phrases after it
  pub joined : (u u' v : List Token) (x x' : H) (xs : List X) (a : List X × List Token) → length a.1 ≤ length u → Best {X = List X} (Each R u) more (Some a)
      → Within goes u' x' (x, u) → Each R u' v xs → Within {X = Y} more v (f x' xs) (f x a.0, a.1)
  joined u u' v x x' xs a shorter rest (inl e) d = same (rest.covers v xs (subst (λ q. Each R q v xs) (sym e.1) d))
    where
      same : Within {X = List X} more v xs a → Within {X = Y} more v (f x' xs) (f x a.0, a.1)
      same (inl s) = inl (ap (λ h. f h a.0) e.0 ∙ ap (λ t. f x' t) s.0, s.1)
      same (inr p) = inr p
  joined u u' v x x' xs a shorter rest (inr p) each_end = inr (omega (arith, p.0), more_goes u' p.1)
  joined u u' v x x' xs a shorter rest (inr p) (each_more r d) = absurd (apart u' (starting _ _ _ r) p.1)

-- the phrases R begin at `starts` and go on at `goes`, which are never the same words
module _ {X : Type 0} (R : List Token → List Token → X → Type 0) (starts goes more : List Token → Type 0)
    (starting : (w v : List Token) (x : X) → R w v x → starts w) (apart : (w : List Token) → starts w → goes w → ⊥)
    (more_starts : (w : List Token) → starts w → more w) (more_goes : (w : List Token) → goes w → more w) where
  none_covers : (w : List Token) → ((u : List Token) (x : X) → R w u x → ⊥) → (v : List Token) (xs : List X) → Each R w v xs → Within {X = List X} more v xs ([], w)
  none_covers w none v xs each_end = inl (refl, refl)
  none_covers w none v xs (each_more r d) = absurd (none _ _ r)

  -- where none begins, there are none
  pub each_none : (w : List Token) → ((u : List Token) (x : X) → R w u x → ⊥) → Best {X = List X} (Each R w) more (Some ([], w))
  each_none w none = record { sound = each_end; covers = none_covers w none }

  on_covers : (w u : List Token) (x : X) (a : List X × List Token) → length u < length w → length a.1 ≤ length u → Best (R w) goes (Some (x, u))
      → Best {X = List X} (Each R u) more (Some a) → (v : List Token) (xs : List X) → Each R w v xs → Within {X = List X} more v xs (x ∷ a.0, a.1)
  on_covers w u x a fewer shorter first rest v xs each_end = inr (omega arith, more_starts w (starting _ _ _ first.sound))
  on_covers w u x a fewer shorter first rest v xs (each_more r d) =
      joined R starts goes more (λ h t. h ∷ t) starting apart more_goes u _ v x _ _ a shorter rest (first.covers _ _ r) d

  -- the longest first one, and the longest rest
  pub each_on : (w u : List Token) (x : X) (a : List X × List Token) → length u < length w → length a.1 ≤ length u → Best (R w) goes (Some (x, u))
      → Best {X = List X} (Each R u) more (Some a) → Best {X = List X} (Each R w) more (Some (x ∷ a.0, a.1))
  each_on w u x a fewer shorter first rest = record { sound = each_more first.sound rest.sound; covers = on_covers w u x a fewer shorter first rest }

-- of a phrase with the word k after it, where a phrase never goes on at k: the longest phrase is the only one
pub followed : {X : Type 0} (R : List Token → X → Type 0) (goes : List Token → Type 0) (k : Word) → ((v u : List Token) → Begins v k u → goes v → ⊥)
    → (r r' v : List Token) (x y : X) → Best R goes (Some (x, r)) → R r' y → Begins r' k v → (x ≡ y) × Begins r k v
followed R goes k closes r r' v x y best d c = by (best.covers r' y d)
  where
    by : Within goes r' y (x, r) → (x ≡ y) × Begins r k v
    by (inl e) = (e.0, subst (λ q. Begins q k v) (sym e.1) c)
    by (inr p) = absurd (closes r' v c p.1)

-- a phrase in parentheses, where a phrase never goes on at a closing one
module _ {X : Type 0} (R : List Token → List Token → X → Type 0) (goes : List Token → Type 0)
    (closes : (v u : List Token) → Begins v (word.Sign sign.ParenClose) u → goes v → ⊥) where
  unopened : (w : List Token) → Lacks w (word.Sign sign.ParenOpen) → (v : List Token) (x : X) → Enclosed R w v x → ⊥
  unopened w none v x (enclosed b d c) = none _ b

  pub enclosed_unopened : (w : List Token) → Lacks w (word.Sign sign.ParenOpen) → Best (Enclosed R w) Never None
  enclosed_unopened w none = best_none (Enclosed R w) Never (unopened w none)

  empty : (w u : List Token) → Begins w (word.Sign sign.ParenOpen) u → Best (R u) goes None → (v : List Token) (x : X) → Enclosed R w v x → ⊥
  empty w u o best v x (enclosed {u = u'} {r = r} b d c) = let same : u' ≡ u = cc in best.covers r x (subst (λ q. R q r x) same d)

  pub enclosed_empty : (w u : List Token) → Begins w (word.Sign sign.ParenOpen) u → Best (R u) goes None → Best (Enclosed R w) Never None
  enclosed_empty w u o best = best_none (Enclosed R w) Never (empty w u o best)

  -- any phrase in parentheses there is the longest
  only : (w u r : List Token) (x : X) → Begins w (word.Sign sign.ParenOpen) u → Best (R u) goes (Some (x, r)) → (v : List Token) (y : X) → Enclosed R w v y
      → (x ≡ y) × Begins r (word.Sign sign.ParenClose) v
  only w u r x o best v y (enclosed {u = u'} {r = r'} b d c) = let same : u' ≡ u = cc in
      followed (R u) goes (word.Sign sign.ParenClose) closes r r' v x y best (subst (λ q. R q r' y) same d) c

  pub enclosed_unclosed : (w u r : List Token) (x : X) → Begins w (word.Sign sign.ParenOpen) u → Best (R u) goes (Some (x, r)) → Lacks r (word.Sign sign.ParenClose)
      → Best (Enclosed R w) Never None
  enclosed_unclosed w u r x o best none = best_none (Enclosed R w) Never (λ v y d. none v (only w u r x o best v y d).1)

  closed_covers : (w u r q : List Token) (x : X) → Begins w (word.Sign sign.ParenOpen) u → Best (R u) goes (Some (x, r)) → Begins r (word.Sign sign.ParenClose) q
      → (v : List Token) (y : X) → Enclosed R w v y → Within Never v y (x, q)
  closed_covers w u r q x o best c v y d = let found = only w u r x o best v y d in let behind = found.1 in let same : q ≡ v = cc in inl (found.0, same)

  pub enclosed_closed : (w u r q : List Token) (x : X) → Begins w (word.Sign sign.ParenOpen) u → Best (R u) goes (Some (x, r)) → Begins r (word.Sign sign.ParenClose) q
      → Best (Enclosed R w) Never (Some (x, q))
  enclosed_closed w u r q x o best c = record { sound = enclosed o best.sound c; covers = closed_covers w u r q x o best c }
