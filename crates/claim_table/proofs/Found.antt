-- The last element that passes, by its place.
use Rattle.std.proofs.Common.{◌≡◌, ℕ, zero, suc, length, get_or, drop, ◌<◌, Bool, true, false, List, [], ◌∷◌, Some, None, refl, arith}
use Rattle.std.specs.List.{list_any}
use Rattle.std.proofs.lemmas.List.Folds.{list_any_at}
use Rattle.sd_base.specs.Selection.{find_last}

pub find_last_none : {X : Type 0} (p : X → Bool) (xs : List X) → list_any p xs ≡ false → find_last p xs ≡ None
find_last_none p [] h = refl
find_last_none p (x ∷ xs) h = grind arith

pub find_last_at : {X : Type 0} (p : X → Bool) (xs : List X) (i : ℕ) (d : X) → i < length xs → p (get_or xs i d) ≡ true → list_any p (drop (suc i) xs) ≡ false →
    find_last p xs ≡ Some (get_or xs i d)
find_last_at p [] i d l h k = absurd (omega arith)
find_last_at p (x ∷ xs) zero d l h k = grind arith
find_last_at p (x ∷ xs) (suc i) d l h k =
    let here : i < length xs = omega arith in
    grind (arith, find_last_at p xs i d here h k, list_any_at p xs i d here h)
