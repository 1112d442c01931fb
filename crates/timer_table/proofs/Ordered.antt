-- Timers by owner and id: where one stands, and what is found, put in and taken away there.
use Rattle.std.proofs.Common.{◌≡◌, ℕ, zero, suc, length, take, drop, set, ◌+◌, ◌<◌, Bool, true, false, cond, ◌||◌, List, [], ◌∷◌, ℤ, pos, Option, Some, refl, ap, sym, ◌∙◌, subst, arith}
use Rattle.std.proofs.lemmas.Bool.Decides.{nat_tests}
use Rattle.std.proofs.lemmas.Int.{ints}
use Rattle.std.proofs.lemmas.List.Sums.{sum_by-take-drop}
use Rattle.std.specs.Prelude.{count_by, slice_get}
use Rattle.std.specs.List.{insert, remove, list_any}
use Rattle.sd_base.specs.Selection.{without_first, passes}
use Rattle.sd_base.proofs.Counting.{count_by-cons}
use Rattle.timer_table.specs.declared.fired.Fired.{Fired}
use Rattle.timer_table.specs.Order.{is_timer, is_owner's, comes_before, insert_row}
use Rattle.sd_base.proofs.Removal.{list_any-without_first, without_first-none}
use Rattle.sd_base.proofs.Single.{count_by-none}
use Rattle.timer_table.proofs.Keyed.{set-insert_remove}
use Rattle.timer_table.specs.Table.{is_astray, IsAscending, place_in}

-- The order of two timers: neither before itself, and one after another is after all before that.

before-itself : (owner : ℕ) (id : ℤ) (x : Fired) → is_timer owner id x ≡ true → comes_before owner id x ≡ false
before-itself owner id x h = grind (arith, nat_tests, ints)

-- what is not before y, which is not before the place, is not before the place
not_before-through : (owner : ℕ) (id : ℤ) (x y : Fired) → comes_before owner id y ≡ false → comes_before y.owner y.id x ≡ false → comes_before owner id x ≡ false
not_before-through owner id x y h k = grind (arith, nat_tests, ints)

-- what is not before y, which is past the place, is not at the place
past-through : (owner : ℕ) (id : ℤ) (x y : Fired) → comes_before owner id y ≡ false → is_timer owner id y ≡ false → comes_before y.owner y.id x ≡ false → is_timer owner id x ≡ false
past-through owner id x y h k l = grind (arith, nat_tests, ints)

-- x is before y, so y is not before x
not_before-back : (x y : Fired) → comes_before x.owner x.id y ≡ true → comes_before y.owner y.id x ≡ false
not_before-back x y h = grind (arith, nat_tests, ints)

pub none-after : (owner : ℕ) (id : ℤ) (y : Fired) (ys : List Fired) → comes_before owner id y ≡ false → list_any (comes_before y.owner y.id) ys ≡ false →
    list_any (comes_before owner id) ys ≡ false
none-after owner id y [] h k = refl
none-after owner id y (x ∷ ys) h k =
    let here : comes_before owner id x ≡ false = not_before-through owner id x y h (grind arith) in
    let rest : list_any (comes_before owner id) ys ≡ false = none-after owner id y ys h (grind arith) in
    grind (arith, here, rest)

past-after : (owner : ℕ) (id : ℤ) (y : Fired) (ys : List Fired) → comes_before owner id y ≡ false → is_timer owner id y ≡ false → list_any (comes_before y.owner y.id) ys ≡ false →
    list_any (is_timer owner id) ys ≡ false
past-after owner id y [] h t k = refl
past-after owner id y (x ∷ ys) h t k =
    let here : is_timer owner id x ≡ false = past-through owner id x y h t (grind arith) in
    let rest : list_any (is_timer owner id) ys ≡ false = past-after owner id y ys h t (grind arith) in
    grind (arith, here, rest)

pub apart-before : (owner : ℕ) (id : ℤ) (y : Fired) → comes_before owner id y ≡ true → is_timer owner id y ≡ false
apart-before owner id y h = grind (arith, nat_tests, ints)

-- what comes before a timer is another
pub is_timer-key : (owner : ℕ) (id : ℤ) (x y : Fired) → is_timer owner id x ≡ true → comes_before x.owner x.id y ≡ true → is_timer owner id y ≡ false
is_timer-key owner id x y h k = grind (arith, nat_tests, ints)

before_too : (owner : ℕ) (id : ℤ) (x y : Fired) → comes_before y.owner y.id x ≡ false → comes_before owner id x ≡ true → comes_before owner id y ≡ true
before_too owner id x y h k = grind (arith, nat_tests, ints)

grind_none : (owner : ℕ) (id : ℤ) (y : Fired) (ys : List Fired) → is_timer owner id y ≡ false → list_any (is_timer owner id) ys ≡ false → list_any (is_timer owner id) (y ∷ ys) ≡ true → false ≡ true
grind_none owner id y ys h k there = grind arith

is_here : (owner : ℕ) (id : ℤ) (y : Fired) (ys : List Fired) → comes_before owner id y ≡ false → list_any (comes_before y.owner y.id) ys ≡ false → list_any (is_timer owner id) (y ∷ ys) ≡ true →
    is_timer owner id y ≡ true
is_here owner id y ys h k there =
    elim (is_timer owner id y) as (λ t. is_timer owner id y ≡ t → t ≡ true) [
      | true ↦ λ is. refl
      | false ↦ λ is. (let none = past-after owner id y ys h is k in cc (grind_none owner id y ys is none there))
    ] refl

-- The place of a timer is how many come before it.

pub place_in-cons : (owner : ℕ) (id : ℤ) (y : Fired) (ys : List Fired) → place_in (y ∷ ys) owner id ≡ cond (comes_before owner id y) 1 0 + place_in ys owner id
place_in-cons owner id y ys = count_by-cons (comes_before owner id) y ys

pub place_in-none : (owner : ℕ) (id : ℤ) (y : Fired) (ys : List Fired) → comes_before owner id y ≡ false → list_any (comes_before y.owner y.id) ys ≡ false → place_in (y ∷ ys) owner id ≡ 0
place_in-none owner id y ys h k =
    let rest = count_by-none (comes_before owner id) ys (none-after owner id y ys h k) in
    let more = place_in-cons owner id y ys in
    grind arith

pub insert-insert_row : (x : Fired) (rows : List Fired) → IsAscending rows → insert rows (place_in rows x.owner x.id) x ≡ insert_row x rows
insert-insert_row x [] up = refl
insert-insert_row x (y ∷ ys) up =
    elim (comes_before x.owner x.id y) as (λ b. comes_before x.owner x.id y ≡ b → insert (y ∷ ys) (place_in (y ∷ ys) x.owner x.id) x ≡ cond b (y ∷ insert_row x ys) (x ∷ y ∷ ys)) [
      | true ↦ λ is. (
          let at : place_in (y ∷ ys) x.owner x.id ≡ suc (place_in ys x.owner x.id) = (let more = place_in-cons x.owner x.id y ys in grind arith) in
          subst (λ n. insert (y ∷ ys) n x ≡ y ∷ insert_row x ys) (sym at) (ap (λ l. y ∷ l) (insert-insert_row x ys up.1)))
      | false ↦ λ is. (
          let at : place_in (y ∷ ys) x.owner x.id ≡ 0 = place_in-none x.owner x.id y ys is up.0 in
          subst (λ n. insert (y ∷ ys) n x ≡ x ∷ y ∷ ys) (sym at) refl)
    ] refl

pub list_any-insert_row : (p : Fired → Bool) (x : Fired) (rows : List Fired) → list_any p (insert_row x rows) ≡ p x || list_any p rows
list_any-insert_row p x [] = refl
list_any-insert_row p x (y ∷ ys) = grind (arith, list_any-insert_row p x ys)

pub count_by-insert_row : (p : Fired → Bool) (x : Fired) (rows : List Fired) → count_by p (insert_row x rows) ≡ cond (p x) 1 0 + count_by p rows
count_by-insert_row p x [] = count_by-cons p x []
count_by-insert_row p x (y ∷ ys) =
    grind (arith, count_by-cons p x (y ∷ ys), count_by-cons p y ys, count_by-cons p y (insert_row x ys), count_by-insert_row p x ys)

pub IsAscending-insert_row : (x : Fired) (rows : List Fired) → IsAscending rows → IsAscending (insert_row x rows)
IsAscending-insert_row x [] up = (refl, tt)
IsAscending-insert_row x (y ∷ ys) up =
    elim (comes_before x.owner x.id y) as (λ b. comes_before x.owner x.id y ≡ b → IsAscending (cond b (y ∷ insert_row x ys) (x ∷ y ∷ ys))) [
      | true ↦ λ is. (
        (let back = not_before-back x y is in let more = list_any-insert_row (comes_before y.owner y.id) x ys in let rest = up.0 in grind arith),
        IsAscending-insert_row x ys up.1,
      )
      | false ↦ λ is. ((let rest = none-after x.owner x.id y ys is up.0 in grind arith), up)
    ] refl

pub IsAscending-without_first : (p : Fired → Bool) (rows : List Fired) → IsAscending rows → IsAscending (without_first p rows)
IsAscending-without_first p [] up = tt
IsAscending-without_first p (y ∷ ys) up =
    elim (p y) as (λ b. IsAscending (cond b ys (y ∷ without_first p ys))) [
      | true ↦ up.1
      | false ↦ (list_any-without_first p (comes_before y.owner y.id) ys up.0, IsAscending-without_first p ys up.1)
    ]

-- the owner's timer with the id stands at its place or nowhere
pub list_any-place : (owner : ℕ) (id : ℤ) (rows : List Fired) → IsAscending rows →
    list_any (is_timer owner id) rows ≡ passes (is_timer owner id) (slice_get rows (place_in rows owner id))
list_any-place owner id [] up = refl
list_any-place owner id (y ∷ ys) up =
    elim (comes_before owner id y) as (λ b. comes_before owner id y ≡ b → list_any (is_timer owner id) (y ∷ ys) ≡ passes (is_timer owner id) (slice_get (y ∷ ys) (place_in (y ∷ ys) owner id))) [
      | true ↦ λ is. (
          let at : place_in (y ∷ ys) owner id ≡ suc (place_in ys owner id) = (let more = place_in-cons owner id y ys in grind arith) in
          let apart = apart-before owner id y is in
          subst (λ n. list_any (is_timer owner id) (y ∷ ys) ≡ passes (is_timer owner id) (slice_get (y ∷ ys) n)) (sym at) (grind (arith, list_any-place owner id ys up.1)))
      | false ↦ λ is. (
          let at : place_in (y ∷ ys) owner id ≡ 0 = place_in-none owner id y ys is up.0 in
          subst (λ n. list_any (is_timer owner id) (y ∷ ys) ≡ passes (is_timer owner id) (slice_get (y ∷ ys) n)) (sym at)
          (elim (is_timer owner id y) as (λ t. is_timer owner id y ≡ t → t || list_any (is_timer owner id) ys ≡ t) [
            | true ↦ λ there. refl
            | false ↦ λ there. past-after owner id y ys is there up.0
          ] refl))
    ] refl

-- the same, where the place and what stands there are told
pub found : (owner : ℕ) (id : ℤ) (rows : List Fired) (place : ℕ) (at : Option Fired) → IsAscending rows → place ≡ place_in rows owner id → slice_get rows place ≡ at →
    passes (is_timer owner id) at ≡ list_any (is_timer owner id) rows
found owner id rows place at up is there =
    ap (passes (is_timer owner id)) (sym there) ∙ ap (λ n. passes (is_timer owner id) (slice_get rows n)) is ∙ sym (list_any-place owner id rows up)

pub remove-place : (owner : ℕ) (id : ℤ) (rows : List Fired) → IsAscending rows → list_any (is_timer owner id) rows ≡ true →
    (place_in rows owner id < length rows) × (remove rows (place_in rows owner id) ≡ without_first (is_timer owner id) rows)
remove-place owner id [] up there = cc
remove-place owner id (y ∷ ys) up there =
    elim (comes_before owner id y) as (λ b. comes_before owner id y ≡ b →
    (place_in (y ∷ ys) owner id < length (y ∷ ys)) × (remove (y ∷ ys) (place_in (y ∷ ys) owner id) ≡ without_first (is_timer owner id) (y ∷ ys))) [
      | true ↦ λ is. (
          let at : place_in (y ∷ ys) owner id ≡ suc (place_in ys owner id) = (let more = place_in-cons owner id y ys in grind arith) in
          let apart = apart-before owner id y is in
          let rest = remove-place owner id ys up.1 (grind arith) in
          subst (λ n. (n < length (y ∷ ys)) × (remove (y ∷ ys) n ≡ without_first (is_timer owner id) (y ∷ ys))) (sym at)
          (let short = rest.0 in let same = rest.1 in (omega arith, grind arith)))
      | false ↦ λ is. (
          let at : place_in (y ∷ ys) owner id ≡ 0 = place_in-none owner id y ys is up.0 in
          let here : is_timer owner id y ≡ true = is_here owner id y ys is up.0 there in
          subst (λ n. (n < length (y ∷ ys)) × (remove (y ∷ ys) n ≡ without_first (is_timer owner id) (y ∷ ys))) (sym at) (omega arith, grind arith))
    ] refl

place_in-without : (owner : ℕ) (id : ℤ) (rows : List Fired) → place_in (without_first (is_timer owner id) rows) owner id ≡ place_in rows owner id
place_in-without owner id [] = refl
place_in-without owner id (y ∷ ys) =
    grind (arith, before-itself owner id y, place_in-cons owner id y ys, place_in-cons owner id y (without_first (is_timer owner id) ys), place_in-without owner id ys)

pub set-place : (x : Fired) (rows : List Fired) → IsAscending rows → list_any (is_timer x.owner x.id) rows ≡ true →
    set rows (place_in rows x.owner x.id) x ≡ insert_row x (without_first (is_timer x.owner x.id) rows)
set-place x rows up there =
    let at = remove-place x.owner x.id rows up there in
    let rest = without_first (is_timer x.owner x.id) rows in
    set-insert_remove rows (place_in rows x.owner x.id) x at.0
    ∙ ap (λ l. insert l (place_in rows x.owner x.id) x) at.1
    ∙ ap (λ n. insert rest n x) (sym (place_in-without x.owner x.id rows))
    ∙ insert-insert_row x rest (IsAscending-without_first (is_timer x.owner x.id) rows up)

-- The search for a place by halves.

list_any-slice_get : (p : Fired → Bool) (xs : List Fired) (i : ℕ) (x : Fired) → list_any p xs ≡ false → slice_get xs i ≡ Some x → p x ≡ false
list_any-slice_get p [] i x h at = cc
list_any-slice_get p (y ∷ xs) zero x h at = (let same : y ≡ x = grind arith in grind (arith, ap p same))
list_any-slice_get p (y ∷ xs) (suc i) x h at = list_any-slice_get p xs i x (grind arith) at

-- all up to a timer that comes before come before
pub place_in-take : (owner : ℕ) (id : ℤ) (rows : List Fired) (i : ℕ) (x : Fired) → IsAscending rows → slice_get rows i ≡ Some x → comes_before owner id x ≡ true →
    place_in (take (i + 1) rows) owner id ≡ i + 1
place_in-take owner id [] i x up at h = cc
place_in-take owner id (y ∷ ys) zero x up at h =
    (let same : y ≡ x = grind arith in let here = place_in-cons owner id y [] in let is = ap (comes_before owner id) same in grind arith)
place_in-take owner id (y ∷ ys) (suc i) x up at h =
    let rest = place_in-take owner id ys i x up.1 at h in
    let later = list_any-slice_get (comes_before y.owner y.id) ys i x up.0 at in
    let here : comes_before owner id y ≡ true = before_too owner id x y later h in
    let more = place_in-cons owner id y (take (i + 1) ys) in
    let long : take (suc i + 1) (y ∷ ys) ≡ y ∷ take (i + 1) ys = ap (λ n. take n (y ∷ ys)) (let e : suc i + 1 ≡ suc (i + 1) = omega arith in e) in
    rw long (grind arith)

-- none from a timer on that does not come before comes before
pub place_in-drop : (owner : ℕ) (id : ℤ) (rows : List Fired) (i : ℕ) (x : Fired) → IsAscending rows → slice_get rows i ≡ Some x → comes_before owner id x ≡ false →
    place_in (drop i rows) owner id ≡ 0
place_in-drop owner id [] i x up at h = cc
place_in-drop owner id (y ∷ ys) zero x up at h =
    (let same : y ≡ x = grind arith in place_in-none owner id y ys (ap (comes_before owner id) same ∙ h) up.0)
place_in-drop owner id (y ∷ ys) (suc i) x up at h = place_in-drop owner id ys i x up.1 at h

-- where the two parts meet
pub place_in-parts : (owner : ℕ) (id : ℤ) (rows : List Fired) (i : ℕ) → place_in (take i rows) owner id ≡ i → place_in (drop i rows) owner id ≡ 0 → place_in rows owner id ≡ i
place_in-parts owner id rows i h k =
    let whole = sum_by-take-drop (λ x. cond (comes_before owner id x) 1 0) rows i in
    omega arith

-- An owner's timers stand together.

place_of_next : (owner : ℕ) (x : Fired) → is_astray x ≡ false → cond (comes_before (owner + 1) (pos 0) x) 1 0 ≡ cond (comes_before owner (pos 0) x) 1 0 + cond (is_owner's owner x) 1 0
place_of_next owner x h = grind (arith, nat_tests, ints)

pub count_of_owner : (owner : ℕ) (rows : List Fired) → list_any is_astray rows ≡ false → place_in rows (owner + 1) (pos 0) ≡ place_in rows owner (pos 0) + count_by (is_owner's owner) rows
count_of_owner owner [] h = refl
count_of_owner owner (x ∷ xs) h =
    let here = place_of_next owner x (grind arith) in
    let rest = count_of_owner owner xs (grind arith) in
    let a = place_in-cons (owner + 1) (pos 0) x xs in
    let b = place_in-cons owner (pos 0) x xs in
    let c = count_by-cons (is_owner's owner) x xs in
    omega arith

-- the same at a place that a search told
pub removed_at : (owner : ℕ) (id : ℤ) (rows : List Fired) (place : ℕ) → IsAscending rows → place ≡ place_in rows owner id → true ≡ list_any (is_timer owner id) rows →
    (place < length rows) × (remove rows place ≡ without_first (is_timer owner id) rows)
removed_at owner id rows place up is there =
    subst (λ n. (n < length rows) × (remove rows n ≡ without_first (is_timer owner id) rows)) (sym is) (remove-place owner id rows up (sym there))

pub replaced_at : (x : Fired) (rows : List Fired) (place : ℕ) → IsAscending rows → place ≡ place_in rows x.owner x.id → true ≡ list_any (is_timer x.owner x.id) rows →
    (place < length rows) × (set rows place x ≡ insert_row x (without_first (is_timer x.owner x.id) rows))
replaced_at x rows place up is there = (
  subst (λ n. n < length rows) (sym is) (remove-place x.owner x.id rows up (sym there)).0,
  subst (λ n. set rows n x ≡ insert_row x (without_first (is_timer x.owner x.id) rows)) (sym is) (set-place x rows up (sym there)),
)

pub inserted_at : (x : Fired) (rows : List Fired) (place : ℕ) → IsAscending rows → place ≡ place_in rows x.owner x.id → false ≡ list_any (is_timer x.owner x.id) rows →
    insert rows place x ≡ insert_row x (without_first (is_timer x.owner x.id) rows)
inserted_at x rows place up is there =
    ap (λ n. insert rows n x) is ∙ insert-insert_row x rows up ∙ ap (insert_row x) (sym (without_first-none (is_timer x.owner x.id) rows (sym there)))
