-- The table after a timer was put in or taken out.
use Rattle.std.proofs.Common.{◌≡◌, ℕ, length, ◌+◌, ◌<◌, ◌≤◌, Bool, true, false, cond, ◌||◌, ltb, List, [], ◌∷◌, ℤ, pos, negsuc, int_lt, refl, ap, subst, arith}
use Rattle.std.proofs.lemmas.Bool.Decides.{nat_tests}
use Rattle.std.proofs.lemmas.Int.{ints}
use Rattle.std.specs.Prelude.{count_by, is_some}
use Rattle.sd_base.specs.Numbers.{number_of}
use Rattle.std.specs.List.{list_any}
use Rattle.sd_base.specs.Selection.{without_first, is_below}
use Rattle.sd_base.proofs.Counting.{count_by-cons, count_below-le, count_below-all}
use Rattle.sd_base.proofs.Removal.{count_by-without_first, list_any-without_first}
use Rattle.timer_table.specs.declared.fired.Fired.{Fired}
use Rattle.timer_table.specs.Order.{is_timer, is_owner's}
use Rattle.timer_table.specs.Table.{is_astray, IsTable, with_timer, without_timer}
use Rattle.timer_table.proofs.Ordered.{list_any-insert_row, count_by-insert_row, IsAscending-insert_row, IsAscending-without_first}

-- where one passes the narrower test, the wider one counts one fewer without it
count_by-without_there : (p q : Fired → Bool) → ((x : Fired) → p x ≡ true → q x ≡ true) → (xs : List Fired) → list_any p xs ≡ true →
    count_by q (without_first p xs) + 1 ≡ count_by q xs
count_by-without_there p q within [] h = cc
count_by-without_there p q within (x ∷ xs) h =
    grind (arith, within x, count_by-cons q x xs, count_by-cons q x (without_first p xs), count_by-without_there p q within xs)

counts_none : (b : Bool) → b ≡ false → cond {A = ℕ} b 1 0 ≡ 0
counts_none b h = ap (λ x. cond {A = ℕ} x 1 0) h

counts_one : (b : Bool) → b ≡ true → cond {A = ℕ} b 1 0 ≡ 1
counts_one b h = ap (λ x. cond {A = ℕ} x 1 0) h

owner's-timer : (owner : ℕ) (id : ℤ) (x : Fired) → is_timer owner id x ≡ true → is_owner's owner x ≡ true
owner's-timer owner id x h = grind arith

few_with : (row : Fired) (rows : List Fired) (owner : ℕ) → IsTable rows →
    (list_any (is_timer row.owner row.id) rows || ltb (count_by (is_owner's row.owner) rows) 64) ≡ true → count_by (is_owner's owner) (with_timer row rows) ≤ 64
few_with row rows owner table room =
    let more = count_by-insert_row (is_owner's owner) row (without_timer row.owner row.id rows) in
    let fewer = count_by-without_first (is_timer row.owner row.id) (is_owner's owner) rows in
    let few = table.few owner in
    elim (is_owner's owner row) as (λ b. is_owner's owner row ≡ b → count_by (is_owner's owner) (with_timer row rows) ≤ 64) [
      | false ↦ λ other. (let none = counts_none (is_owner's owner row) other in omega arith)
      | true ↦ λ own. (
          let one = counts_one (is_owner's owner row) own in
          let same : row.owner ≡ owner = grind (arith, nat_tests) in
          elim (list_any (is_timer row.owner row.id) rows) as (λ b. list_any (is_timer row.owner row.id) rows ≡ b → count_by (is_owner's owner) (with_timer row rows) ≤ 64) [
            | true ↦ λ there. (
                let within : (x : Fired) → is_timer row.owner row.id x ≡ true → is_owner's owner x ≡ true = λ x h. subst (λ o. is_owner's o x ≡ true) same (owner's-timer row.owner row.id x h) in
                let gone = count_by-without_there (is_timer row.owner row.id) (is_owner's owner) within rows there in
                omega arith)
            | false ↦ λ there. (
                let test : ltb (count_by (is_owner's row.owner) rows) 64 ≡ true = grind arith in
                let below : count_by (is_owner's row.owner) rows < 64 = grind (arith, nat_tests) in
                let below_own : count_by (is_owner's owner) rows < 64 = subst (λ o. count_by (is_owner's o) rows < 64) same below in
                omega arith)
          ] refl)
    ] refl

not_astray_of : (owner : ℕ) (id : ℤ) → owner ≤ 4 → is_below 256 id ≡ true → (ltb 4 owner || int_lt id (pos 0)) ≡ false
not_astray_of owner (pos n) few fits = grind (arith, nat_tests, ints)
not_astray_of owner (negsuc n) few fits = cc

not_astray : (row : Fired) → row.owner ≤ 4 → is_below 256 row.id ≡ true → is_astray row ≡ false
not_astray row few fits = not_astray_of row.owner row.id few fits

pub IsTable-with_timer : (row : Fired) (rows : List Fired) → IsTable rows → row.owner ≤ 4 → is_below 256 row.id ≡ true →
    (list_any (is_timer row.owner row.id) rows || ltb (count_by (is_owner's row.owner) rows) 64) ≡ true → IsTable (with_timer row rows)
IsTable-with_timer row rows table few fits room = record {
  ascending = IsAscending-insert_row row (without_timer row.owner row.id rows) (IsAscending-without_first (is_timer row.owner row.id) rows table.ascending);
  in_range = (
      let here = not_astray row few fits in
      let rest = list_any-without_first (is_timer row.owner row.id) is_astray rows table.in_range in
      let more = list_any-insert_row is_astray row (without_timer row.owner row.id rows) in
      grind arith);
  few = λ owner. few_with row rows owner table room;
}

pub IsTable-without_timer : (owner : ℕ) (id : ℤ) (rows : List Fired) → IsTable rows → IsTable (without_timer owner id rows)
IsTable-without_timer owner id rows table = record {
  ascending = IsAscending-without_first (is_timer owner id) rows table.ascending;
  in_range = list_any-without_first (is_timer owner id) is_astray rows table.in_range;
  few = λ o. (let fewer = count_by-without_first (is_timer owner id) (is_owner's o) rows in let few = table.few o in omega arith);
}

none_past : (rows : List Fired) → list_any is_astray rows ≡ false → list_any (λ x. ltb 5 (x.owner + 1)) rows ≡ false
none_past [] h = refl
none_past (x ∷ xs) h = grind (arith, nat_tests, none_past xs)

-- An owner that has its last timer taken out.

pub in_range_of : (id : ℤ) → is_some (number_of 256 id) ≡ true → is_below 256 id ≡ true
in_range_of (pos n) h = grind arith
in_range_of (negsuc n) h = cc

one_more_each : (row : Fired) (rows : List Fired) (owner : ℕ) → IsTable rows → count_by (is_owner's row.owner) rows < 64 → count_by (is_owner's owner) (row ∷ rows) ≤ 64
one_more_each row rows owner table below =
    let more = count_by-cons (is_owner's owner) row rows in
    let few = table.few owner in
    elim (is_owner's owner row) as (λ b. is_owner's owner row ≡ b → count_by (is_owner's owner) (row ∷ rows) ≤ 64) [
      | false ↦ λ other. (let none = counts_none (is_owner's owner row) other in omega arith)
      | true ↦ λ own. (
          let one = counts_one (is_owner's owner row) own in
          let same : row.owner ≡ owner = grind (arith, nat_tests) in
          let here : count_by (is_owner's owner) rows < 64 = subst (λ o. count_by (is_owner's o) rows < 64) same below in
          omega arith)
    ] refl

-- where an owner has fewer than 64, there is room for one more
pub room_for : (row : Fired) (rows : List Fired) → IsTable rows → row.owner ≤ 4 → count_by (is_owner's row.owner) rows < 64 → length rows < 320
room_for row rows table few below =
    let none : list_any (λ (x : Fired). ltb 5 (x.owner + 1)) (row ∷ rows) ≡ false = (let rest = none_past rows table.in_range in grind (arith, nat_tests)) in
    let all = count_below-all (λ (x : Fired). x.owner) 5 (row ∷ rows) none in
    let each = count_below-le (λ (x : Fired). x.owner) 64 5 (row ∷ rows) (λ k h. one_more_each row rows k table below) in
    omega arith
