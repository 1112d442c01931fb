-- The note that an update ends, by its place.
use Rattle.std.proofs.Common.{◌≡◌, ℕ, ◌≤◌, Bool, false, cond, ltb, List, [], ◌∷◌, length, remove, Some, None, refl, sym, subst, arith}
use Rattle.std.proofs.lemmas.Bool.Decides.{nat_tests}
use Rattle.std.specs.List.{list_any, position, position_or_len}
use Rattle.std.proofs.lemmas.List.Quantifiers.{position-Some}
use Rattle.sd_base.specs.Selection.{without_first, without_last}
use Rattle.sd_base.proofs.Removal.{remove_last, remove_first, without_last-none, without_first-none}
use Rattle.update_tracker.specs.Places.{IsLastPlace}

-- the newest goes
pub newest_goes : {X : Type 0} (p : X → Bool) (xs ys : List X) (i : ℕ) (d : X) → ys ≡ xs → IsLastPlace p ys i → remove xs i ≡ without_last p xs
newest_goes p xs ys i d same last =
    subst (λ (l : List _). remove l i ≡ without_last p l) same (remove_last p ys i d last.within (last.here d) last.after)

-- there is none
pub none_goes : {X : Type 0} (p : X → Bool) (xs ys : List X) → ys ≡ xs → list_any p ys ≡ false → xs ≡ without_last p xs
none_goes p xs ys same none = sym (without_last-none p xs (subst (λ (l : List _). list_any p l ≡ false) same none))

-- the oldest goes
pub oldest_goes : {X : Type 0} (p : X → Bool) (xs ys : List X) (i : ℕ) (d : X) → ys ≡ xs → position p ys ≡ Some i → remove xs i ≡ without_first p xs
oldest_goes p xs ys i d same first =
    let at = position-Some p ys i d first in
    subst (λ (l : List _). remove l i ≡ without_first p l) same (remove_first p ys i d at.0 at.1 at.2)

no_place : (n size : ℕ) → cond (ltb n size) (Some n) None ≡ None → size ≤ n
no_place n size h = grind (arith, nat_tests)

none_found : {X : Type 0} (p : X → Bool) (xs : List X) → length xs ≤ position_or_len p xs → list_any p xs ≡ false
none_found p [] h = refl
none_found p (x ∷ xs) h = grind (arith, none_found p xs)

-- there is none
pub no_oldest_goes : {X : Type 0} (p : X → Bool) (xs ys : List X) → ys ≡ xs → position p ys ≡ None → xs ≡ without_first p xs
no_oldest_goes p xs ys same none =
    let empty : list_any p ys ≡ false = none_found p ys (no_place (position_or_len p ys) (length ys) none) in
    sym (without_first-none p xs (subst (λ (l : List _). list_any p l ≡ false) same empty))
