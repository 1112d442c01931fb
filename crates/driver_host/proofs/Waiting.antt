-- The first line that waits, looked for from the front.
-- Here: none-so_far, first-waits, none-waits
use Rattle.std.proofs.Common.{◌≡◌, ℕ, zero, suc, ◌+◌, ◌≤◌, Bool, true, false, ◌||◌, List, [], ◌∷◌, take, get_or, length, refl, sym, ap, subst, arith, true≢false}
use Rattle.std.specs.List.{list_any, position_or_len}

abbrev pub none_before : List Bool → ℕ → Type 0
none_before xs k = list_any (λ waits. waits) (take k xs) ≡ false

pub none-so_far : (xs : List Bool) (k : ℕ) → none_before xs k → get_or xs k false ≡ false → none_before xs (k + 1)
none-so_far xs k none e = let next : suc k ≡ k + 1 = omega arith in subst (λ n. none_before xs n) next (one-more xs k none e)
  where
    one-more : (xs : List Bool) (k : ℕ) → none_before xs k → get_or xs k false ≡ false → none_before xs (suc k)
    one-more [] k none e = refl
    one-more (x ∷ xs) zero none e = ap (λ t. t || false) e
    one-more (true ∷ xs) (suc k) none e = absurd (true≢false none)
    one-more (false ∷ xs) (suc k) none e = one-more xs k none e

pub first-waits : (xs : List Bool) (k : ℕ) → none_before xs k → get_or xs k false ≡ true
    → (list_any (λ waits. waits) xs ≡ true) × (k ≡ position_or_len (λ waits. waits) xs)
first-waits [] k none e = absurd (true≢false (sym e))
first-waits (true ∷ xs) zero none e = (refl, refl)
first-waits (false ∷ xs) zero none e = absurd (true≢false (sym e))
first-waits (true ∷ xs) (suc k) none e = absurd (true≢false none)
first-waits (false ∷ xs) (suc k) none e =
    let more = first-waits xs k none e in
    let at : suc k ≡ 1 + position_or_len (λ waits. waits) xs = omega (arith, more.1) in
    (more.0, at)

pub none-waits : (xs : List Bool) (k : ℕ) → length xs ≤ k → none_before xs k → list_any (λ waits. waits) xs ≡ false
none-waits [] k all none = refl
none-waits (x ∷ xs) zero all none = absurd (omega arith)
none-waits (true ∷ xs) (suc k) all none = absurd (true≢false none)
none-waits (false ∷ xs) (suc k) all none = none-waits xs k (omega arith) none
