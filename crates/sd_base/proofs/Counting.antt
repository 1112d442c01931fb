-- How many elements of a list pass a test, and what bounds a list's length.
use Rattle.std.proofs.Common.{◌≡◌, ℕ, zero, suc, ◌++◌, reverse, length, ◌+◌, ◌*◌, ◌<◌, ◌≤◌, Bool, true, false, cond, eqb, ltb, List, [], ◌∷◌, refl, subst, arith}
use Rattle.std.proofs.lemmas.Bool.Decides.{nat_tests}
use Rattle.std.proofs.lemmas.List.{reverse-append}
use Rattle.std.proofs.lemmas.List.Sums.{sum_by-cons, sum_by-append}
use Rattle.std.specs.List.{list_any, filter, count_by}

pub count_by-cons : {X : Type 0} (p : X → Bool) (x : X) (xs : List X) → count_by p (x ∷ xs) ≡ cond (p x) 1 0 + count_by p xs
count_by-cons p x xs = sum_by-cons (λ y. cond (p y) 1 0) x xs

pub count_by-append : {X : Type 0} (p : X → Bool) (xs ys : List X) → count_by p (xs ++ ys) ≡ count_by p xs + count_by p ys
count_by-append p xs ys = sum_by-append (λ y. cond (p y) 1 0) xs ys

pub reverse-cons : {X : Type 0} (x : X) (xs : List X) → reverse (x ∷ xs) ≡ reverse xs ++ x ∷ []
reverse-cons x xs = reverse-append (x ∷ []) xs

pub count_by-reverse : {X : Type 0} (p : X → Bool) (xs : List X) → count_by p (reverse xs) ≡ count_by p xs
count_by-reverse p [] = refl
count_by-reverse p (x ∷ xs) =
    rw reverse-cons (omega (arith, count_by-append p (reverse xs) (x ∷ []), count_by-cons p x [], count_by-cons p x xs, count_by-reverse p xs))

pub count_by-filter : {X : Type 0} (q p : X → Bool) → ((x : X) → p x ≡ true → q x ≡ true) → (xs : List X) → count_by p (filter q xs) ≡ count_by p xs
count_by-filter q p within [] = refl
count_by-filter q p within (x ∷ xs) =
    grind (arith, within x, count_by-cons p x xs, count_by-cons p x (filter q xs), count_by-filter q p within xs)

-- fewer pass after a filter
pub count_by-filter_le : {X : Type 0} (q p : X → Bool) (xs : List X) → count_by p (filter q xs) ≤ count_by p xs
count_by-filter_le q p [] = omega arith
count_by-filter_le q p (x ∷ xs) =
    grind (arith, count_by-cons p x xs, count_by-cons p x (filter q xs), count_by-filter_le q p xs)

-- how many of the elements have a number below n
abbrev pub count_below : {X : Type 0} → (X → ℕ) → ℕ → List X → ℕ
count_below f n xs = count_by (λ x. ltb (f x) n) xs

count_below-zero : {X : Type 0} (f : X → ℕ) (xs : List X) → count_below f 0 xs ≡ 0
count_below-zero f [] = refl
count_below-zero f (x ∷ xs) = grind (arith, nat_tests, count_by-cons (λ y. ltb (f y) 0) x xs, count_below-zero f xs)

count_below-more : {X : Type 0} (f : X → ℕ) (n : ℕ) (xs : List X) → count_below f (n + 1) xs ≡ count_below f n xs + count_by (λ x. eqb (f x) n) xs
count_below-more f n [] = refl
count_below-more f n (x ∷ xs) =
    grind (arith, nat_tests, count_by-cons (λ y. ltb (f y) (n + 1)) x xs, count_by-cons (λ y. ltb (f y) n) x xs, count_by-cons (λ y. eqb (f y) n) x xs, count_below-more f n xs)

pub count_below-all : {X : Type 0} (f : X → ℕ) (n : ℕ) (xs : List X) → list_any (λ x. ltb n (f x + 1)) xs ≡ false → count_below f n xs ≡ length xs
count_below-all f n [] h = refl
count_below-all f n (x ∷ xs) h = grind (arith, nat_tests, count_by-cons (λ y. ltb (f y) n) x xs, count_below-all f n xs)

-- at most b of each of n numbers, so at most n * b in all
pub count_below-le : {X : Type 0} (f : X → ℕ) (b n : ℕ) (xs : List X) → ((k : ℕ) → k < n → count_by (λ x. eqb (f x) k) xs ≤ b) → count_below f n xs ≤ n * b
count_below-le f b zero xs each = rw count_below-zero (omega arith)
count_below-le f b (suc n) xs each =
    let more : count_below f (suc n) xs ≡ count_below f n xs + count_by (λ x. eqb (f x) n) xs =
    subst (λ m. count_below f m xs ≡ count_below f n xs + count_by (λ x. eqb (f x) n) xs) (omega arith) (count_below-more f n xs) in
    let rest : count_below f n xs ≤ n * b = count_below-le f b n xs (λ k h. each k (omega arith)) in
    let here : count_by (λ x. eqb (f x) n) xs ≤ b = each n (omega arith) in
    omega arith
