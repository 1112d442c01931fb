-- Places of names in a list: the first place of a name that none before has, and that one place has one name.
use Rattle.std.proofs.Common.{◌≡◌, ℕ, zero, suc, ◌+◌, ◌-◌, ◌^◌, ◌<◌, Bool, true, false, cond, not, List, [], ◌∷◌, ◌++◌, length, get_or, Some, None, slice_get, position, bytes_eq, nat_lt, refl, sym, ◌∙◌, ap, subst, append_assoc, arith, length-append}
use Rattle.std.specs.List.{list_any, position_or_len}
use Rattle.std.proofs.lemmas.Bool.{cond-true, cond-false, lt-ltb, or_parts}
use Rattle.std.proofs.lemmas.List.{length_push}
use Rattle.std.proofs.lemmas.List.Quantifiers.{position-Some}
use Rattle.std.proofs.lemmas.Slice.Eq.{bytes_eq-Decides}
use Rattle.deputy_types.specs.Found.{with_name}

first_place : {X : Type 0} (p : X → Bool) (xs ys : List X) (x : X) → list_any p xs ≡ false → p x ≡ true → position_or_len p (xs ++ x ∷ ys) ≡ length xs
first_place p [] ys x h e = ap (λ (b : Bool). cond (not b) (1 + position_or_len p ys) 0) e
first_place p (z ∷ xs) ys x h e =
    let n = or_parts (p z) (list_any p xs) h in
    let rest = first_place p xs ys x n.1 e in
    ap (λ (b : Bool). cond (not b) (1 + position_or_len p (xs ++ x ∷ ys)) 0) n.0 ∙ omega (arith, rest)

pub position_new : {X : Type 0} (p : X → Bool) (xs ys : List X) (x : X) → list_any p xs ≡ false → p x ≡ true → position p (xs ++ x ∷ ys) ≡ Some (length xs)
position_new {X = X} p xs ys x h e =
    let place = first_place p xs ys x h e in
    let long : length (xs ++ x ∷ ys) ≡ length xs + suc (length ys) = length-append xs (x ∷ ys) in
    ap (λ (n : ℕ). cond (nat_lt n (length (xs ++ x ∷ ys))) (Some n) None) place
    ∙ cond-true (nat_lt (length xs) (length (xs ++ x ∷ ys))) (Some (length xs)) None (lt-ltb (length xs) (length (xs ++ x ∷ ys)) (omega (arith, long)))

pub its_own : (x : List ℕ) → bytes_eq x x ≡ true
its_own x = (bytes_eq-Decides x x).1 refl

-- names each of which none before has
abbrev pub AreFresh : List (List ℕ) → List (List ℕ) → Type 0
AreFresh before [] = Unit {0}
AreFresh before (x ∷ xs) = (list_any (bytes_eq x) before ≡ false) × AreFresh (before ++ x ∷ []) xs

pub fresh_at : (before xs : List (List ℕ)) (k : ℕ) (x : List ℕ) → AreFresh before xs → slice_get xs k ≡ Some x → position (bytes_eq x) (before ++ xs) ≡ Some (length before + k)
fresh_at before [] k x h e = absurd cc
fresh_at before (y ∷ xs) zero x h e =
    let same : y ≡ x = cc in
    let zeroth : length before ≡ length before + 0 = omega arith in
    let there = position_new (bytes_eq y) before xs y h.0 (its_own y) in
    subst (λ (z : List ℕ). position (bytes_eq z) (before ++ y ∷ xs) ≡ Some (length before + 0)) same (there ∙ ap (λ (n : ℕ). Some n) zeroth)
fresh_at before (y ∷ xs) (suc k) x h e =
    let r = fresh_at (before ++ y ∷ []) xs k x h.1 e in
    let long : length (before ++ y ∷ []) ≡ length before + 1 = length_push before y in
    let place : length (before ++ y ∷ []) + k ≡ length before + suc k = omega (arith, long) in
    ap (λ (l : List (List ℕ)). position (bytes_eq x) l) (sym (append_assoc before (y ∷ []) xs)) ∙ (r ∙ ap (λ (n : ℕ). Some n) place)

-- what stands at the place of a name is the name
pub record NamedAt (names : List (List ℕ)) (name : List ℕ) (k : ℕ) : Type 0 where
  pub below : k < length names
  pub is : name ≡ get_or names k []

pub named_at : (names : List (List ℕ)) (name : List ℕ) (k : ℕ) → position (bytes_eq name) names ≡ Some k → NamedAt names name k
named_at names name k h =
    let p = position-Some (bytes_eq name) names k [] h in
    record { below = p.0; is = (bytes_eq-Decides name (get_or names k [])).0 p.1 }

-- an element of a list by a place within it
pub element_at : {X : Type 0} (xs : List X) (k : ℕ) → k < length xs → (x : X) × (slice_get xs k ≡ Some x)
element_at [] k l = absurd (omega arith)
element_at (x ∷ xs) zero l = (x, refl)
element_at (x ∷ xs) (suc k) l = element_at xs k (omega arith)

-- ---- lists of names
pub with_name_new : (names : List (List ℕ)) (x : List ℕ) → list_any (bytes_eq x) names ≡ false → length names < 2 ^ 32 - 1 → with_name names x ≡ names ++ x ∷ []
unfolding with_name
with_name_new names x absent room = cond-false (list_any (bytes_eq x) names) _ _ absent ∙ cond-true (nat_lt (length names) (2 ^ 32 - 1)) _ _ (lt-ltb (length names) (2 ^ 32 - 1) room)
