-- The set of codes stands beside the list of atoms: what is found in the one is the number in the other.
use Rattle.std.proofs.Common.{◌≡◌, ◌+◌, ◌<◌, ◌≤◌, ℕ, Bool, true, false, not, cond, List, [], ◌∷◌, ◌++◌, length, map, Option, None, Some, nat_lt, nat_eq, Vec, Global, bytes_eq, position, refl, sym, ap, subst, ◌∙◌, true≢false, arith}
use Rattle.std.specs.List.{position_or_len, prefix_len, list_any}
use Rattle.std.specs.Cmp.Lexicographic.{pointwise, bytes_decides}
use Rattle.std.proofs.lemmas.Bool.{cond-true, cond-false, ltb-false}
use Rattle.std.proofs.lemmas.List.{length-map}
use Rattle.std.proofs.lemmas.List.Sums.{prefix_len-le-length}
use Rattle.std.proofs.lemmas.Bool.Decides.{same_from_decides}
use Rattle.std.proofs.lemmas.Slice.Eq.{bytes_eq-Decides}
use Rattle.indexmap.specs.IndexSet.{insert_key}
use Rattle.checked_tree.specs.declared.expressions.CheckedExpr.{CheckedExpr}
use Rattle.checked_tree.specs.Bare.{bare}
use Rattle.checked_tree.specs.Codes.{code, is_same}
use Rattle.checked_tree.proofs.CodeLaws.{code-bare}
use Rattle.deputy_rules.specs.Numbering.{number_of, with_atom}

abbrev Numbers : Type 0
Numbers = Vec ℕ Global

abbrev items_of : Numbers → List ℕ
items_of v = v.items

-- a first place in the images of a list's elements
place-map : {A B : Type 0} (f : A → B) (p : B → Bool) (xs : List A) → position_or_len p (map f xs) ≡ position_or_len (λ x. p (f x)) xs
place-map f p [] = refl
place-map f p (x ∷ xs) = ap (λ n. cond (not (p (f x))) (1 + n) 0) (place-map f p xs)

same_items : (x y : List ℕ) → pointwise nat_eq x y ≡ bytes_eq x y
same_items x y = same_from_decides _ _ (bytes_decides x y) (bytes_eq-Decides x y)

same_test : (x : List ℕ) (e : CheckedExpr) → x ≡ code e → (λ y. pointwise nat_eq x (code y)) ≡ is_same e
unfolding is_same
same_test x e is = subst (λ z. (λ y. pointwise nat_eq z (code y)) ≡ is_same e) (sym is) (λ i y. same_items (code e) (code y) i)

-- the first place of an expression's code is the first place of the expression
same_place : (x : List ℕ) (e : CheckedExpr) (codes : List Numbers) (forms : List CheckedExpr) → x ≡ code e → map items_of codes ≡ map code forms
    → position_or_len (λ y. pointwise nat_eq x y.items) codes ≡ position_or_len (is_same e) forms
same_place x e codes forms is beside =
    sym (place-map items_of (pointwise nat_eq x) codes) ∙ (ap (position_or_len (pointwise nat_eq x)) beside
    ∙ (place-map code (pointwise nat_eq x) forms ∙ ap (λ p. position_or_len p forms) (same_test x e is)))

same_length : (codes : List Numbers) (forms : List CheckedExpr) → map items_of codes ≡ map code forms → length codes ≡ length forms
same_length codes forms beside = sym (length-map codes items_of) ∙ (ap length beside ∙ length-map forms code)

-- the place that was found, and that none was
found_at : (b : Bool) (n k : ℕ) → Some k ≡ cond b (Some n) None → (k ≡ n) × (b ≡ true)
found_at true n k h = (ap (λ o. some_or o) h, refl)
  where
    some_or : Option ℕ → ℕ
    some_or None = 0
    some_or (Some x) = x
found_at false n k h = absurd (true≢false (ap (λ o. is_there o) h))
  where
    is_there : Option ℕ → Bool
    is_there None = false
    is_there (Some x) = true

missing_at : (b : Bool) (n : ℕ) → None ≡ cond b (Some n) None → b ≡ false
missing_at true n h = absurd (true≢false (sym (ap (λ o. is_there o) h)))
  where
    is_there : Option ℕ → Bool
    is_there None = false
    is_there (Some x) = true
missing_at false n h = refl

place_within : {A : Type 0} (p : A → Bool) (xs : List A) → position_or_len p xs ≤ length xs
place_within p xs = prefix_len-le-length (λ x. not (p x)) xs

pub number-found : (k : ℕ) (x : List ℕ) (e : CheckedExpr) (codes : List Numbers) (forms now : List CheckedExpr) → x ≡ code e → map items_of codes ≡ map code forms
    → forms ≡ now → Some k ≡ position (λ y. pointwise nat_eq x y.items) codes → k ≡ number_of now e
unfolding number_of
number-found k x e codes forms now is beside same found =
    subst (λ l. k ≡ position_or_len (is_same e) l) same ((found_at _ _ k found).0 ∙ same_place x e codes forms is beside)

pub atoms-found : (k : ℕ) (x : List ℕ) (e : CheckedExpr) (codes : List Numbers) (forms now : List CheckedExpr) → x ≡ code e → map items_of codes ≡ map code forms
    → forms ≡ now → Some k ≡ position (λ y. pointwise nat_eq x y.items) codes → now ≡ with_atom now e
unfolding number_of with_atom
atoms-found k x e codes forms now is beside same found =
    subst (λ l. l ≡ with_atom l e) same (sym (cond-true _ forms _ within))
  where
    within : nat_lt (position_or_len (is_same e) forms) (length forms) ≡ true
    within = ap (λ n. nat_lt n (length forms)) (sym (same_place x e codes forms is beside))
        ∙ (ap (nat_lt (position_or_len (λ y. pointwise nat_eq x y.items) codes)) (sym (same_length codes forms beside)) ∙ (found_at _ _ k found).1)

missing : (x : List ℕ) (e : CheckedExpr) (codes : List Numbers) (forms : List CheckedExpr) → x ≡ code e → map items_of codes ≡ map code forms
    → None ≡ position (λ y. pointwise nat_eq x y.items) codes → nat_lt (position_or_len (is_same e) forms) (length forms) ≡ false
missing x e codes forms is beside none =
    ap (λ n. nat_lt n (length forms)) (sym (same_place x e codes forms is beside))
    ∙ (ap (nat_lt (position_or_len (λ y. pointwise nat_eq x y.items) codes)) (sym (same_length codes forms beside)) ∙ missing_at _ _ none)

pub number-new : (k : ℕ) (x : List ℕ) (e : CheckedExpr) (codes : List Numbers) (forms now : List CheckedExpr) → x ≡ code e → map items_of codes ≡ map code forms
    → forms ≡ now → None ≡ position (λ y. pointwise nat_eq x y.items) codes → k ≡ length forms → k ≡ number_of now e
unfolding number_of
number-new k x e codes forms now is beside same none at =
    subst (λ l. k ≡ position_or_len (is_same e) l) same (omega (arith, at, place_within (is_same e) forms, ltb-false (position_or_len (is_same e) forms) (length forms) (missing x e codes forms is beside none)))

pub atoms-new : (x : List ℕ) (e form : CheckedExpr) (codes : List Numbers) (forms now new : List CheckedExpr) → x ≡ code e → map items_of codes ≡ map code forms
    → forms ≡ now → None ≡ position (λ y. pointwise nat_eq x y.items) codes → form ≡ bare e → new ≡ forms ++ form ∷ [] → new ≡ with_atom now e
unfolding number_of with_atom
atoms-new x e form codes forms now new is beside same none plain pushed =
    subst (λ l. new ≡ with_atom l e) same (pushed ∙ (ap (λ f. forms ++ f ∷ []) plain ∙ sym (cond-false _ forms _ (missing x e codes forms is beside none))))

map-push : {A B : Type 0} (f : A → B) (xs : List A) (y : A) → map f (xs ++ y ∷ []) ≡ map f xs ++ f y ∷ []
map-push f [] y = refl
map-push f (x ∷ xs) y = ap (λ l. f x ∷ l) (map-push f xs y)

-- equality of codes
abbrev pub same_numbers : Numbers → Numbers → Bool
same_numbers x y = pointwise nat_eq x.items y.items

-- a code and a form more
pub beside-new : (v : Numbers) (e form : CheckedExpr) (codes keys : List Numbers) (forms new : List CheckedExpr) → v.items ≡ code e
    → map items_of codes ≡ map code forms → list_any (same_numbers v) codes ≡ false → keys ≡ insert_key same_numbers codes v → form ≡ bare e → new ≡ forms ++ form ∷ []
    → map items_of keys ≡ map code new
beside-new v e form codes keys forms new is beside absent inserted plain pushed =
    ap (map items_of) (inserted ∙ cond-false _ codes _ absent) ∙ (map-push items_of codes v ∙ (ap (λ l. l ++ v.items ∷ []) beside
    ∙ (ap (λ z. map code forms ++ z ∷ []) (is ∙ (sym (code-bare e) ∙ ap code (sym plain))) ∙ (sym (map-push code forms form) ∙ ap (map code) (sym pushed)))))
