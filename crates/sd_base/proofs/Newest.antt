-- The newest live entry of an owner: to take away what it put there is to take away the owner's newest entry.
use Rattle.std.proofs.Common.{◌≡◌, ℕ, Bool, true, false, not, List, [], ◌∷◌, ℤ, Some, refl, ap, sym, ◌∙◌, arith}
use Rattle.std.proofs.lemmas.Bool.Decides.{nat_tests, Decides-int_eq}
use Rattle.std.specs.List.{list_any, filter, find}
use Rattle.std.specs.Ordering.{int_eq}
use Rattle.sd_base.specs.Selection.{without_first}
use Rattle.sd_base.specs.History.{Entry, Key, same_key, live_key, is_of, is_owner, Without}
use Rattle.sd_base.proofs.Removal.{filter-without_first_other}

int_eq-refl : (x : ℤ) → int_eq x x ≡ true
int_eq-refl x = (Decides-int_eq x x).1 refl

same_key-refl : (k : Key) → same_key k k ≡ true
same_key-refl k = grind (arith, nat_tests, int_eq-refl k.number, int_eq-refl k.count)

is_of-itself : (owner : ℕ) (e : Entry) → is_owner owner e ≡ true → is_of owner (live_key e.update) e ≡ true
is_of-itself owner e h = grind (arith, same_key-refl (live_key e.update))

is_of-is_owner : (owner : ℕ) (k : Key) (e : Entry) → is_of owner k e ≡ true → is_owner owner e ≡ true
is_of-is_owner owner k e h = grind arith

-- where the first that passes the wider test passes the narrower one, they take away the same element
without_first-agree : {X : Type 0} (p q : X → Bool) → ((x : X) → p x ≡ true → q x ≡ true) → (xs : List X) (e : X) → find q xs ≡ Some e → p e ≡ true → without_first p xs ≡ without_first q xs
without_first-agree p q within [] e is h = refl
without_first-agree p q within (x ∷ xs) e is h =
    elim (q x) as (λ b. q x ≡ b → without_first p (x ∷ xs) ≡ without_first q (x ∷ xs)) [
      | true ↦ λ here. (let same : x ≡ e = grind arith in grind (arith, ap p same))
      | false ↦ λ here. grind (arith, within x, without_first-agree p q within xs e)
    ] refl

list_any-find : {X : Type 0} (p q : X → Bool) (xs : List X) (e : X) → find q xs ≡ Some e → p e ≡ true → list_any p xs ≡ true
list_any-find p q [] e is h = cc
list_any-find p q (x ∷ xs) e is h =
    elim (q x) as (λ b. q x ≡ b → list_any p (x ∷ xs) ≡ true) [
      | true ↦ λ here. (let same : x ≡ e = grind arith in grind (arith, ap p same))
      | false ↦ λ here. grind (arith, list_any-find p q xs e)
    ] refl

find-filter : {X : Type 0} (q : X → Bool) (xs : List X) (e : X) (es : List X) → filter q xs ≡ e ∷ es → (find q xs ≡ Some e) × (q e ≡ true) × (filter q (without_first q xs) ≡ es)
find-filter q [] e es h = cc
find-filter q (x ∷ xs) e es h =
    elim (q x) as (λ b. q x ≡ b → (find q (x ∷ xs) ≡ Some e) × (q e ≡ true) × (filter q (without_first q (x ∷ xs)) ≡ es)) [
      | true ↦ λ here. (let same : x ≡ e = grind arith in (grind arith, ap q (sym same) ∙ here, grind arith))
      | false ↦ λ here. (let rest = find-filter q xs e es (grind arith) in (grind (arith, rest.0), rest.1, grind (arith, rest.2)))
    ] refl

kept_none : {X : Type 0} (q : X → Bool) (x : X) (xs : List X) → q x ≡ true → filter q (x ∷ xs) ≡ [] → x ∷ filter q xs ≡ []
kept_none q x xs here h = grind arith

filter-none : {X : Type 0} (q : X → Bool) (xs : List X) → filter q xs ≡ [] → filter (λ x. not (q x)) xs ≡ xs
filter-none q [] h = refl
filter-none q (x ∷ xs) h =
    elim (q x) as (λ b. q x ≡ b → filter (λ y. not (q y)) (x ∷ xs) ≡ x ∷ xs) [
      | true ↦ λ here. cc (kept_none q x xs here h)
      | false ↦ λ here. grind (arith, filter-none q xs)
    ] refl

-- The newest live entry of an owner. To take away what it put there is to take away the owner's newest entry, whatever entries of
-- other owners are newer.
pub record IsNewest (owner : ℕ) (live : List Entry) (e : Entry) (rest : List Entry) : Type 0 where
  pub there : list_any (is_of owner (live_key e.update)) live ≡ true
  pub goes : without_first (is_of owner (live_key e.update)) live ≡ without_first (is_owner owner) live
  pub left : filter (is_owner owner) (without_first (is_owner owner) live) ≡ rest
  pub others : Without (without_first (is_owner owner) live) owner ≡ Without live owner

pub newest : (owner : ℕ) (live : List Entry) (e : Entry) (rest : List Entry) → filter (is_owner owner) live ≡ e ∷ rest → IsNewest owner live e rest
newest owner live e rest h =
    let found = find-filter (is_owner owner) live e rest h in
    let itself = is_of-itself owner e found.1 in
    record {
      there = list_any-find (is_of owner (live_key e.update)) (is_owner owner) live e found.0 itself;
      goes = without_first-agree (is_of owner (live_key e.update)) (is_owner owner) (is_of-is_owner owner (live_key e.update)) live e found.0 itself;
      left = found.2;
      others = filter-without_first_other (λ x. not (is_owner owner x)) (is_owner owner) (λ x k. ap not k) live;
    }

-- where an owner has no entry left, the others' are all
pub all_others : (owner : ℕ) (live : List Entry) → filter (is_owner owner) live ≡ [] → Without live owner ≡ live
all_others owner live h = filter-none (is_owner owner) live h
