-- The timer that fires first, of a list that grows, and that it is the one to fire.
use Rattle.std.proofs.Common.{◌≡◌, ℕ, zero, suc, ◌+◌, ◌++◌, take, Bool, true, false, cond, ◌&&◌, ◌||◌, List, [], ◌∷◌, Option, Some, None, refl, ap, ◌∙◌, arith}
use Rattle.std.proofs.lemmas.Bool.Decides.{nat_tests}
use Rattle.std.proofs.lemmas.Int.{ints}
use Rattle.std.specs.Prelude.{MatchOption, slice_get}
use Rattle.std.specs.List.{list_any, filter}
use Rattle.std.proofs.lemmas.List.Elements.{Contains-append_left, Contains-append_right, Contains-push}
use Rattle.sd_base.proofs.Removal.{list_any-wider}
use Rattle.timer_table.specs.declared.fired.Fired.{Fired}
use Rattle.timer_table.specs.Order.{fires_before, earlier, first_to_fire, is_due, earlier_if_due, next_of}
use Rattle.timer_table.specs.Table.{IsNext}

fires-through : (x b y : Fired) → fires_before x b ≡ true → fires_before b y ≡ true → fires_before x y ≡ true
fires-through x b y h k = grind (arith, nat_tests, ints)

-- x is before y, which is not after b
fires-past : (x b y : Fired) → fires_before x y ≡ true → fires_before b y ≡ false → fires_before x b ≡ true
fires-past x b y h k = grind (arith, nat_tests, ints)

fires-itself : (x : Fired) → fires_before x x ≡ false
fires-itself x = grind (arith, nat_tests, ints)

fires-back : (x y : Fired) → fires_before x y ≡ true → fires_before y x ≡ false
fires-back x y h = grind (arith, nat_tests, ints)

-- as the second is before the third or not
one_more_of : (now : ℕ) (x y b : Fired) (q : Bool) → fires_before b y ≡ q →
    Some (earlier y (cond (is_due now x && fires_before x b) (Some x) (Some b))) ≡ cond (is_due now x && fires_before x (cond q b y)) (Some x) (Some (cond q b y))
one_more_of now x y b true is =
    elim (fires_before x b) as (λ p. fires_before x b ≡ p → Some (earlier y (cond (is_due now x && p) (Some x) (Some b))) ≡ cond (is_due now x && p) (Some x) (Some b)) [
      | true ↦ λ h. (let past = fires-through x b y h is in elim (is_due now x) as (λ d. Some (earlier y (cond (d && true) (Some x) (Some b))) ≡ cond (d && true) (Some x) (Some b)) [
        | true ↦ ap (λ r. Some (cond r x y)) past
        | false ↦ ap (λ r. Some (cond r b y)) is
      ])
      | false ↦ λ h. elim (is_due now x) as (λ d. Some (earlier y (cond (d && false) (Some x) (Some b))) ≡ cond (d && false) (Some x) (Some b)) [
        | true ↦ ap (λ r. Some (cond r b y)) is
        | false ↦ ap (λ r. Some (cond r b y)) is
      ]
    ] refl
one_more_of now x y b false is =
    elim (is_due now x) as (λ d. Some (earlier y (cond (d && fires_before x b) (Some x) (Some b))) ≡ cond (d && fires_before x y) (Some x) (Some y)) [
      | false ↦ ap (λ r. Some (cond r b y)) is
      | true ↦ elim (fires_before x y) as (λ r. fires_before x y ≡ r → Some (earlier y (cond (true && fires_before x b) (Some x) (Some b))) ≡ cond (true && r) (Some x) (Some y)) [
        | true ↦ λ h. (let past = fires-past x b y h is in
            ap (λ p. Some (earlier y (cond (true && p) (Some x) (Some b)))) past ∙ ap (λ r. Some (cond r x y)) h)
        | false ↦ λ h. elim (fires_before x b) as (λ p. Some (earlier y (cond (true && p) (Some x) (Some b))) ≡ Some y) [
          | true ↦ ap (λ r. Some (cond r x y)) h
          | false ↦ ap (λ r. Some (cond r b y)) is
        ]
      ] refl
    ]

one_more : (now : ℕ) (x y : Fired) (r : Option Fired) → Some (earlier y (earlier_if_due now x r)) ≡ earlier_if_due now x (Some (earlier y r))
one_more now x y None = grind arith
one_more now x y (Some b) = one_more_of now x y b (fires_before b y) refl

-- the next of one more timer
pub next_of-append : (now : ℕ) (xs : List Fired) (x : Fired) → next_of now (xs ++ x ∷ []) ≡ earlier_if_due now x (next_of now xs)
next_of-append now [] x = grind arith
next_of-append now (y ∷ ys) x = grind (arith, one_more now x y (next_of now ys), next_of-append now ys x)

-- The law of the next: it is one of them, due, and none that is due is before it.

within_y : (now : ℕ) (y b : Fired) → fires_before b y ≡ false → (x : Fired) → (is_due now x && fires_before x y) ≡ true → (is_due now x && fires_before x b) ≡ true
within_y now y b h x k =
    let before : fires_before x y ≡ true = grind arith in
    let past = fires-past x b y before h in
    grind arith

next-of_later : (now : ℕ) (y : Fired) (ys : List Fired) (b : Fired) → IsNext now ys b → is_due now y ≡ true → IsNext now (y ∷ ys) (cond (fires_before b y) b y)
next-of_later now y ys b is due =
    elim (fires_before b y) as (λ q. fires_before b y ≡ q → IsNext now (y ∷ ys) (cond q b y)) [
      | true ↦ λ h. record {
        live = Contains-append_right (y ∷ []) ys b is.live;
        due = is.due;
        first = (let back = fires-back b y h in let rest = is.first in grind arith);
      }
      | false ↦ λ h. record {
        live = Contains-append_left (y ∷ []) ys y (Contains-push [] y);
        due = grind (arith, nat_tests);
        first = (
            let rest = list_any-wider (λ x. is_due now x && fires_before x b) (λ x. is_due now x && fires_before x y) (within_y now y b h) ys is.first in
            let itself = fires-itself y in
            grind arith);
      }
    ] refl

none_within : (now : ℕ) (y x : Fired) → (is_due now x && fires_before x y) ≡ true → is_due now x ≡ true
none_within now y x h = grind arith

next-of_due : (now : ℕ) (y : Fired) (ys : List Fired) → is_due now y ≡ true → (r : Option Fired) → MatchOption r (list_any (is_due now) ys ≡ false) (IsNext now ys) →
    IsNext now (y ∷ ys) (earlier y r)
next-of_due now y ys due None none = record {
  live = Contains-append_left (y ∷ []) ys y (Contains-push [] y);
  due = grind (arith, nat_tests);
  first = (
      let rest = list_any-wider (is_due now) (λ x. is_due now x && fires_before x y) (none_within now y) ys none in
      let itself = fires-itself y in
      grind arith);
}
next-of_due now y ys due (Some b) is = next-of_later now y ys b is due

next-of_not_due : (now : ℕ) (y : Fired) (ys : List Fired) → is_due now y ≡ false → (r : Option Fired) → MatchOption r (list_any (is_due now) ys ≡ false) (IsNext now ys) →
    MatchOption r (list_any (is_due now) ys ≡ false) (IsNext now (y ∷ ys))
next-of_not_due now y ys due None none = none
next-of_not_due now y ys due (Some b) is = record {
  live = Contains-append_right (y ∷ []) ys b is.live;
  due = is.due;
  first = (let rest = is.first in grind arith);
}

pub next-is : (now : ℕ) (rows : List Fired) → MatchOption (next_of now rows) (list_any (is_due now) rows ≡ false) (IsNext now rows)
next-is now [] = refl
next-is now (y ∷ ys) =
    elim (is_due now y) as (λ d. is_due now y ≡ d → MatchOption (first_to_fire (cond d (y ∷ filter (is_due now) ys) (filter (is_due now) ys))) ((d || list_any (is_due now) ys) ≡ false) (IsNext now (y ∷ ys))) [
      | true ↦ λ due. next-of_due now y ys due (next_of now ys) (next-is now ys)
      | false ↦ λ due. next-of_not_due now y ys due (next_of now ys) (next-is now ys)
    ] refl

pub take-more : (xs : List Fired) (i : ℕ) (x : Fired) → slice_get xs i ≡ Some x → take (i + 1) xs ≡ take i xs ++ x ∷ []
take-more [] i x h = cc
take-more (y ∷ ys) zero x h = (let same : y ≡ x = grind arith in ap (λ z. z ∷ []) same)
take-more (y ∷ ys) (suc i) x h =
    let long : take (suc i + 1) (y ∷ ys) ≡ y ∷ take (i + 1) ys = ap (λ n. take n (y ∷ ys)) (let e : suc i + 1 ≡ suc (i + 1) = omega arith in e) in
    long ∙ ap (λ l. y ∷ l) (take-more ys i x h)
