-- The first place at which a test passes.
use Rattle.std.proofs.Common.{◌≡◌, ℕ, zero, suc, ◌<◌, ◌≤◌, Bool, true, false, List, [], ◌∷◌, length, get_or, nat_lt, Some, None, if◌then◌else◌, refl, sym, ap, ◌∙◌, arith}
use Rattle.std.specs.List.{position, position_or_len}
use Rattle.check_elim.proofs.Clearing.{lt_yes, lt_no}

module _ {X : Type 0} (p : X → Bool) where
  first : (xs : List X) (n : ℕ) (x : X) → ((k : ℕ) (d : X) → k < n → p (get_or xs k d) ≡ false) → n < length xs → p (get_or xs n x) ≡ true → position_or_len p xs ≡ n
  first [] n x before low is = absurd (omega (arith, low))
  first (y ∷ ys) zero x before low is = rw is refl
  first (y ∷ ys) (suc n) x before low is = rw (before zero y (omega arith)) (let r = first ys n x (λ k d h. before (suc k) d (omega (arith, h))) (omega (arith, low)) is in omega (arith, r))

  never : (xs : List X) → ((k : ℕ) (d : X) → k < length xs → p (get_or xs k d) ≡ false) → position_or_len p xs ≡ length xs
  never [] none = refl
  never (y ∷ ys) none = rw (none zero y (omega arith)) (let r = never ys (λ k d h. none (suc k) d (omega (arith, h))) in omega (arith, r))

  pub found : (xs : List X) (n : ℕ) (x : X) → ((k : ℕ) (d : X) → k < n → p (get_or xs k d) ≡ false) → n < length xs → p (get_or xs n x) ≡ true → Some n ≡ position p xs
  found xs n x before low is =
      let e = first xs n x before low is in
      sym ((λ i. if nat_lt (e i) (length xs) then Some (e i) else None) ∙ ap (λ (b : Bool). if b then Some n else None) (lt_yes n (length xs) low))

  pub not_found : (xs : List X) (n : ℕ) → ((k : ℕ) (d : X) → k < n → p (get_or xs k d) ≡ false) → length xs ≤ n → None ≡ position p xs
  not_found xs n before high =
      let e = never xs (λ k d h. before k d (omega (arith, h, high))) in
      sym ((λ i. if nat_lt (e i) (length xs) then Some (e i) else None) ∙ ap (λ (b : Bool). if b then Some (length xs) else None) (lt_no (length xs) (length xs) (omega arith)))
