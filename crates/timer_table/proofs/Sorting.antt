-- Timers put in order, against removals, filters and counts of the list that they came from.
use Rattle.std.proofs.Common.{◌≡◌, ℕ, ◌+◌, Bool, true, false, cond, ◌||◌, List, [], ◌∷◌, ℤ, refl, ap, sym, ◌∙◌, arith}
use Rattle.std.specs.Prelude.{count_by}
use Rattle.std.specs.List.{list_any}
use Rattle.sd_base.specs.Selection.{without_first}
use Rattle.sd_base.proofs.Counting.{count_by-cons}
use Rattle.sd_base.proofs.Removal.{list_any-without_first}
use Rattle.timer_table.specs.declared.fired.Fired.{Fired}
use Rattle.timer_table.specs.Order.{is_timer, comes_before, insert_row, by_owner_and_id}
use Rattle.timer_table.specs.Table.{IsAscending}
use Rattle.timer_table.proofs.Ordered.{none-after, is_timer-key, list_any-insert_row, count_by-insert_row, IsAscending-insert_row}

-- before all that is not before it
insert_row-front : (x : Fired) (rows : List Fired) → list_any (comes_before x.owner x.id) rows ≡ false → insert_row x rows ≡ x ∷ rows
insert_row-front x [] h = refl
insert_row-front x (y ∷ ys) h = grind arith

pub IsAscending-by_owner_and_id : (xs : List Fired) → IsAscending (by_owner_and_id xs)
IsAscending-by_owner_and_id [] = tt
IsAscending-by_owner_and_id (x ∷ xs) = IsAscending-insert_row x (by_owner_and_id xs) (IsAscending-by_owner_and_id xs)

pub list_any-by_owner_and_id : (p : Fired → Bool) (xs : List Fired) → list_any p (by_owner_and_id xs) ≡ list_any p xs
list_any-by_owner_and_id p [] = refl
list_any-by_owner_and_id p (x ∷ xs) = list_any-insert_row p x (by_owner_and_id xs) ∙ ap (λ b. p x || b) (list_any-by_owner_and_id p xs)

pub count_by-by_owner_and_id : (p : Fired → Bool) (xs : List Fired) → count_by p (by_owner_and_id xs) ≡ count_by p xs
count_by-by_owner_and_id p [] = refl
count_by-by_owner_and_id p (x ∷ xs) =
    count_by-insert_row p x (by_owner_and_id xs) ∙ ap (λ n. cond (p x) 1 0 + n) (count_by-by_owner_and_id p xs) ∙ sym (count_by-cons p x xs)

-- the timer itself goes where it was put: all before it have another owner or id
without_first-here : (owner : ℕ) (id : ℤ) (x : Fired) (rows : List Fired) → is_timer owner id x ≡ true → without_first (is_timer owner id) (insert_row x rows) ≡ rows
without_first-here owner id x [] h = grind arith
without_first-here owner id x (y ∷ ys) h =
    elim (comes_before x.owner x.id y) as (λ b. comes_before x.owner x.id y ≡ b → without_first (is_timer owner id) (cond b (y ∷ insert_row x ys) (x ∷ y ∷ ys)) ≡ y ∷ ys) [
      | true ↦ λ is. (let apart : is_timer owner id y ≡ false = is_timer-key owner id x y h is in grind (arith, without_first-here owner id x ys h))
      | false ↦ λ is. grind arith
    ] refl

-- another than the one that goes
without_first-other : (p : Fired → Bool) (x : Fired) (rows : List Fired) → p x ≡ false → IsAscending rows → without_first p (insert_row x rows) ≡ insert_row x (without_first p rows)
without_first-other p x [] h up = grind arith
without_first-other p x (y ∷ ys) h up =
    elim (comes_before x.owner x.id y) as (λ b. comes_before x.owner x.id y ≡ b →
    without_first p (cond b (y ∷ insert_row x ys) (x ∷ y ∷ ys)) ≡ insert_row x (without_first p (y ∷ ys))) [
      | true ↦ λ is. grind (arith, without_first-other p x ys h up.1)
      | false ↦ λ is. (
          let none : list_any (comes_before x.owner x.id) (y ∷ ys) ≡ false = (let rest = none-after x.owner x.id y ys is up.0 in grind arith) in
          let front = insert_row-front x (without_first p (y ∷ ys)) (list_any-without_first p (comes_before x.owner x.id) (y ∷ ys) none) in
          grind arith)
    ] refl

-- a timer taken out of the list is taken out of the order
pub by_owner_and_id-without_first : (owner : ℕ) (id : ℤ) (xs : List Fired) →
    by_owner_and_id (without_first (is_timer owner id) xs) ≡ without_first (is_timer owner id) (by_owner_and_id xs)
by_owner_and_id-without_first owner id [] = refl
by_owner_and_id-without_first owner id (x ∷ xs) =
    elim (is_timer owner id x) as (λ b. is_timer owner id x ≡ b →
    by_owner_and_id (cond b xs (x ∷ without_first (is_timer owner id) xs)) ≡ without_first (is_timer owner id) (insert_row x (by_owner_and_id xs))) [
      | true ↦ λ is. sym (without_first-here owner id x (by_owner_and_id xs) is)
      | false ↦ λ is.
          ap (insert_row x) (by_owner_and_id-without_first owner id xs)
          ∙ sym (without_first-other (is_timer owner id) x (by_owner_and_id xs) is (IsAscending-by_owner_and_id xs))
    ] refl
