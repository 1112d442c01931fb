-- Rows: what a list shows of those of its elements that have a row. A test of elements that asks of the row alone may be asked of
-- the rows.
use Rattle.std.proofs.Common.{◌≡◌, Bool, true, List, [], ◌∷◌, Option, Some, None, refl, arith}
use Rattle.std.specs.List.{list_any, filter, filter_map, count_by}
use Rattle.sd_base.specs.Selection.{without_first, without_last, passes}
use Rattle.sd_base.proofs.Counting.{count_by-cons}
use Rattle.sd_base.proofs.Removal.{without_last-none}

pub filter_map-without_first : {X Y : Type 0} (row : X → Option Y) (p : X → Bool) (r : Y → Bool) → ((x : X) → p x ≡ passes r (row x)) → (xs : List X) →
    filter_map row (without_first p xs) ≡ without_first r (filter_map row xs)
filter_map-without_first row p r same [] = refl
filter_map-without_first row p r same (x ∷ xs) =
    elim (row x) as (λ o. row x ≡ o → filter_map row (without_first p (x ∷ xs)) ≡ without_first r (filter_map row (x ∷ xs))) [
      | None ↦ λ is. grind (arith, same x, filter_map-without_first row p r same xs)
      | Some y ↦ λ is. grind (arith, same x, filter_map-without_first row p r same xs)
    ] refl

pub filter_map-without_first_other : {X Y : Type 0} (row : X → Option Y) (p : X → Bool) → ((x : X) → p x ≡ true → row x ≡ None) → (xs : List X) →
    filter_map row (without_first p xs) ≡ filter_map row xs
filter_map-without_first_other row p none [] = refl
filter_map-without_first_other row p none (x ∷ xs) = grind (arith, none x, filter_map-without_first_other row p none xs)

pub filter_map-without_last_other : {X Y : Type 0} (row : X → Option Y) (p : X → Bool) → ((x : X) → p x ≡ true → row x ≡ None) → (xs : List X) →
    filter_map row (without_last p xs) ≡ filter_map row xs
filter_map-without_last_other row p none [] = refl
filter_map-without_last_other row p none (x ∷ xs) = grind (arith, none x, filter_map-without_last_other row p none xs)

pub list_any-filter_map : {X Y : Type 0} (row : X → Option Y) (p : X → Bool) (r : Y → Bool) → ((x : X) → p x ≡ passes r (row x)) → (xs : List X) →
    list_any r (filter_map row xs) ≡ list_any p xs
list_any-filter_map row p r same [] = refl
list_any-filter_map row p r same (x ∷ xs) =
    elim (row x) as (λ o. row x ≡ o → list_any r (filter_map row (x ∷ xs)) ≡ list_any p (x ∷ xs)) [
      | None ↦ λ is. grind (arith, same x, list_any-filter_map row p r same xs)
      | Some y ↦ λ is. grind (arith, same x, list_any-filter_map row p r same xs)
    ] refl

pub filter_map-without_last : {X Y : Type 0} (row : X → Option Y) (p : X → Bool) (r : Y → Bool) → ((x : X) → p x ≡ passes r (row x)) → (xs : List X) →
    filter_map row (without_last p xs) ≡ without_last r (filter_map row xs)
filter_map-without_last row p r same [] = refl
filter_map-without_last row p r same (x ∷ xs) =
    elim (row x) as (λ o. row x ≡ o → filter_map row (without_last p (x ∷ xs)) ≡ without_last r (filter_map row (x ∷ xs))) [
      | None ↦ λ is. grind (arith, same x, without_last-none p xs, list_any-filter_map row p r same xs, without_last-none r (filter_map row xs), filter_map-without_last row p r same xs)
      | Some y ↦ λ is. grind (arith, same x, list_any-filter_map row p r same xs, filter_map-without_last row p r same xs)
    ] refl

pub count_by-filter_map : {X Y : Type 0} (row : X → Option Y) (p : X → Bool) (r : Y → Bool) → ((x : X) → p x ≡ passes r (row x)) → (xs : List X) →
    count_by r (filter_map row xs) ≡ count_by p xs
count_by-filter_map row p r same [] = refl
count_by-filter_map row p r same (x ∷ xs) =
    elim (row x) as (λ o. row x ≡ o → count_by r (filter_map row (x ∷ xs)) ≡ count_by p (x ∷ xs)) [
      | None ↦ λ is. grind (arith, same x, count_by-cons p x xs, count_by-filter_map row p r same xs)
      | Some y ↦ λ is. grind (arith, same x, count_by-cons p x xs, count_by-cons r y (filter_map row xs), count_by-filter_map row p r same xs)
    ] refl

-- a filter that keeps an element exactly where it keeps its row
pub filter_map-filter : {X Y : Type 0} (row : X → Option Y) (q : X → Bool) (r : Y → Bool) → ((x : X) (y : Y) → row x ≡ Some y → q x ≡ r y) → (xs : List X) →
    filter_map row (filter q xs) ≡ filter r (filter_map row xs)
filter_map-filter row q r same [] = refl
filter_map-filter row q r same (x ∷ xs) =
    elim (row x) as (λ o. row x ≡ o → filter_map row (filter q (x ∷ xs)) ≡ filter r (filter_map row (x ∷ xs))) [
      | None ↦ λ is. grind (arith, filter_map-filter row q r same xs)
      | Some y ↦ λ is. grind (arith, same x y is, filter_map-filter row q r same xs)
    ] refl
