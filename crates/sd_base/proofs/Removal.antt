-- Lists without their first or last element that passes a test: what a filter, a count and a search see of them.
use Rattle.std.proofs.Common.{◌≡◌, ℕ, zero, suc, ◌++◌, reverse, length, get_or, drop, append-nil, ◌<◌, ◌≤◌, Bool, true, false, cond, List, [], ◌∷◌, Some, None, refl, arith}
use Rattle.std.proofs.lemmas.List.Folds.{list_any-append, list_any_at}
use Rattle.std.specs.List.{remove, list_any, filter, find, count_by}
use Rattle.sd_base.specs.Selection.{without_first, without_last, find_last}
use Rattle.sd_base.proofs.Counting.{count_by-cons, reverse-cons}

-- a test of the part that a filter keeps
pub filter-without_first : {X : Type 0} (q p : X → Bool) → ((x : X) → p x ≡ true → q x ≡ true) → (xs : List X) →
    filter q (without_first p xs) ≡ without_first p (filter q xs)
filter-without_first q p within [] = refl
filter-without_first q p within (x ∷ xs) = grind (arith, within x, filter-without_first q p within xs)

-- a test of the part that a filter drops
pub filter-without_first_other : {X : Type 0} (q p : X → Bool) → ((x : X) → p x ≡ true → q x ≡ false) → (xs : List X) →
    filter q (without_first p xs) ≡ filter q xs
filter-without_first_other q p apart [] = refl
filter-without_first_other q p apart (x ∷ xs) = grind (arith, apart x, filter-without_first_other q p apart xs)

pub list_any-filter : {X : Type 0} (q p : X → Bool) → ((x : X) → p x ≡ true → q x ≡ true) → (xs : List X) →
    list_any p (filter q xs) ≡ list_any p xs
list_any-filter q p within [] = refl
list_any-filter q p within (x ∷ xs) = grind (arith, within x, list_any-filter q p within xs)

-- where nothing passes the wider test, nothing passes the narrower one
pub list_any-wider : {X : Type 0} (q p : X → Bool) → ((x : X) → p x ≡ true → q x ≡ true) → (xs : List X) →
    list_any q xs ≡ false → list_any p xs ≡ false
list_any-wider q p within [] h = refl
list_any-wider q p within (x ∷ xs) h = grind (arith, within x, list_any-wider q p within xs)

pub list_any-without_first : {X : Type 0} (p q : X → Bool) (xs : List X) → list_any q xs ≡ false → list_any q (without_first p xs) ≡ false
list_any-without_first p q [] h = refl
list_any-without_first p q (x ∷ xs) h = grind (arith, list_any-without_first p q xs)

pub list_any-without_last : {X : Type 0} (p q : X → Bool) (xs : List X) → list_any q xs ≡ false → list_any q (without_last p xs) ≡ false
list_any-without_last p q [] h = refl
list_any-without_last p q (x ∷ xs) h = grind (arith, list_any-without_last p q xs)

pub without_first-none : {X : Type 0} (p : X → Bool) (xs : List X) → list_any p xs ≡ false → without_first p xs ≡ xs
without_first-none p [] h = refl
without_first-none p (x ∷ xs) h = grind (arith, without_first-none p xs)

pub without_last-none : {X : Type 0} (p : X → Bool) (xs : List X) → list_any p xs ≡ false → without_last p xs ≡ xs
without_last-none p [] h = refl
without_last-none p (x ∷ xs) h = grind (arith, without_last-none p xs)

pub filter-without_last : {X : Type 0} (q p : X → Bool) → ((x : X) → p x ≡ true → q x ≡ true) → (xs : List X) →
    filter q (without_last p xs) ≡ without_last p (filter q xs)
filter-without_last q p within [] = refl
filter-without_last q p within (x ∷ xs) =
    grind (arith, within x, list_any-filter q p within xs, without_last-none p (filter q xs), filter-without_last q p within xs)

pub filter-without_last_other : {X : Type 0} (q p : X → Bool) → ((x : X) → p x ≡ true → q x ≡ false) → (xs : List X) →
    filter q (without_last p xs) ≡ filter q xs
filter-without_last_other q p apart [] = refl
filter-without_last_other q p apart (x ∷ xs) = grind (arith, apart x, filter-without_last_other q p apart xs)

-- nothing passes after a filter if nothing did before
pub list_any-filter_none : {X : Type 0} (q p : X → Bool) (xs : List X) → list_any p xs ≡ false → list_any p (filter q xs) ≡ false
list_any-filter_none q p [] h = refl
list_any-filter_none q p (x ∷ xs) h = grind (arith, list_any-filter_none q p xs)

pub find-filter_none : {X : Type 0} (q p : X → Bool) (xs : List X) → find p xs ≡ None → find p (filter q xs) ≡ None
find-filter_none q p [] h = refl
find-filter_none q p (x ∷ xs) h = grind (arith, find-filter_none q p xs)

find_last-some : {X : Type 0} (p : X → Bool) (xs : List X) (e : X) → find_last p xs ≡ Some e → list_any p xs ≡ true
find_last-some p [] e h = cc
find_last-some p (x ∷ xs) e h = grind (arith, find_last-some p xs e)

-- the last that passes stays the last where a filter keeps it
pub find_last-filter : {X : Type 0} (q p : X → Bool) (xs : List X) (e : X) → q e ≡ true → find_last p xs ≡ Some e → find_last p (filter q xs) ≡ Some e
find_last-filter q p [] e k h = cc
find_last-filter q p (x ∷ xs) e k h =
    grind (arith, find_last-some p (filter q xs) e, list_any-filter_none q p xs, find_last-filter q p xs e k)

pub count_by-without_first : {X : Type 0} (p q : X → Bool) (xs : List X) → count_by q (without_first p xs) ≤ count_by q xs
count_by-without_first p q [] = omega arith
count_by-without_first p q (x ∷ xs) =
    grind (arith, count_by-cons q x xs, count_by-cons q x (without_first p xs), count_by-without_first p q xs)

pub count_by-without_last : {X : Type 0} (p q : X → Bool) (xs : List X) → count_by q (without_last p xs) ≤ count_by q xs
count_by-without_last p q [] = omega arith
count_by-without_last p q (x ∷ xs) =
    grind (arith, count_by-cons q x xs, count_by-cons q x (without_last p xs), count_by-without_last p q xs)

pub length-without_first : {X : Type 0} (p : X → Bool) (xs : List X) → length (without_first p xs) ≤ length xs
length-without_first p [] = omega arith
length-without_first p (x ∷ xs) = grind (arith, length-without_first p xs)

pub length-without_last : {X : Type 0} (p : X → Bool) (xs : List X) → length (without_last p xs) ≤ length xs
length-without_last p [] = omega arith
length-without_last p (x ∷ xs) = grind (arith, length-without_last p xs)

-- where the list is cut, and kept the other way round
pub without_first-append : {X : Type 0} (p : X → Bool) (xs ys : List X) →
    without_first p (xs ++ ys) ≡ cond (list_any p xs) (without_first p xs ++ ys) (xs ++ without_first p ys)
without_first-append p [] ys = refl
without_first-append p (x ∷ xs) ys = grind (arith, without_first-append p xs ys)

pub list_any-reverse : {X : Type 0} (p : X → Bool) (xs : List X) → list_any p (reverse xs) ≡ list_any p xs
list_any-reverse p [] = refl
list_any-reverse p (x ∷ xs) = rw reverse-cons (grind (arith, list_any-append p (reverse xs) (x ∷ []), list_any-reverse p xs))

pub reverse-without_last : {X : Type 0} (p : X → Bool) (xs : List X) → reverse (without_last p xs) ≡ without_first p (reverse xs)
reverse-without_last p [] = refl
reverse-without_last p (x ∷ xs) =
    grind (arith, reverse-cons x xs, reverse-cons x (without_last p xs), append-nil (reverse xs), without_first-append p (reverse xs) (x ∷ []), list_any-reverse p xs, reverse-without_last p xs)

-- the last element that passes, by its place
pub remove_last : {X : Type 0} (p : X → Bool) (xs : List X) (i : ℕ) (d : X) → i < length xs → p (get_or xs i d) ≡ true →
    list_any p (drop (suc i) xs) ≡ false → remove xs i ≡ without_last p xs
remove_last p [] i d l h k = absurd (omega arith)
remove_last p (x ∷ xs) zero d l h k = grind arith
remove_last p (x ∷ xs) (suc i) d l h k =
    let here : i < length xs = omega arith in
    grind (arith, remove_last p xs i d here h k, list_any_at p xs i d here h)

-- the first element that passes, by its place
pub remove_first : {X : Type 0} (p : X → Bool) (xs : List X) (i : ℕ) (d : X) → i < length xs → p (get_or xs i d) ≡ true →
    ((k : ℕ) → k < i → p (get_or xs k d) ≡ false) → remove xs i ≡ without_first p xs
remove_first p [] i d l h k = absurd (omega arith)
remove_first p (x ∷ xs) zero d l h k = grind arith
remove_first p (x ∷ xs) (suc i) d l h k =
    let here : i < length xs = omega arith in
    let head : p x ≡ false = k 0 (omega arith) in
    grind (arith, remove_first p xs i d here h (λ j b. k (suc j) (omega arith)))
