-- The last star, found by its place.
use Rattle.std.proofs.Common.{◌≡◌, suc, ◌-◌, List, [], ◌∷◌, length, Bool, true, false, not, Option, None, Some, is_none, is_some, slice_get, refl, ap, sym, ◌∙◌, true≢false, arith}
use Rattle.c_tree.specs.declared.types.Star.{Star}
use Rattle.c_tree.specs.declared.types.Annotation.{Annotation}
use Rattle.c_tree.specs.Slots.{ends_bare}

abbrev is_bare : Option Star → Bool
is_bare None = false
is_bare (Some s) = is_none s.annotation

abbrev last : List Star → Option Star
last ss = slice_get ss (length ss - 1)

longer : (s t : Star) (ss : List Star) → last (s ∷ t ∷ ss) ≡ last (t ∷ ss)
longer s t ss = ap (λ n. slice_get (s ∷ t ∷ ss) n) e
  where
    e : length (s ∷ t ∷ ss) - 1 ≡ suc (length (t ∷ ss) - 1)
    e = omega arith

last-bare : (ss : List Star) → is_bare (last ss) ≡ ends_bare ss
last-bare [] = refl
last-bare (s ∷ []) = refl
last-bare (s ∷ t ∷ ss) = ap is_bare (longer s t ss) ∙ last-bare (t ∷ ss)

none_told : (o : Option Annotation) (b : Bool) → is_some o ≡ not b → b ≡ is_none o
none_told None true h = refl
none_told None false h = absurd (true≢false (sym h))
none_told (Some a) true h = absurd (true≢false h)
none_told (Some a) false h = refl

-- where there is no last star, and where there is one
pub no_last : (stars seen : List Star) → seen ≡ stars → None ≡ slice_get seen (length seen - 1) → false ≡ ends_bare stars
no_last stars seen same value = ap is_bare value ∙ (last-bare seen ∙ ap ends_bare same)

pub bare_last : (stars seen : List Star) (s : Star) (b : Bool) → seen ≡ stars → Some s ≡ slice_get seen (length seen - 1) → is_some s.annotation ≡ not b → b ≡ ends_bare stars
bare_last stars seen s b same value told = none_told s.annotation b told ∙ (ap is_bare value ∙ (last-bare seen ∙ ap ends_bare same))
