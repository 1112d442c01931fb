-- Merged terms are determined by the coefficients of the atoms.
use Rattle.std.proofs.Common.{◌≡◌, ◌≢◌, ℕ, ◌<◌, ◌≤◌, ◌==◌, Bool, true, false, List, [], ◌∷◌, ℤ, pos, ◌+ℤ◌, arith, sym, ap, ◌∙◌, refl, if◌then◌else◌, ◌⊎◌, inl, inr}
use Rattle.std.proofs.lemmas.Int.{ints}
use Rattle.std.proofs.lemmas.Bool.{eqb-true}
use Rattle.std.proofs.lemmas.Bool.Decides.{eqb_tells, Decides-eqb, not_from_Decides}
use Rattle.dep_expr.specs.Merged.{coefficient, AllAbove, AreMerged}

-- a test of two numbers, with what it tells
pub on_equal : (P : Bool → Type 0) (a b : ℕ) → (a ≡ b → P true) → (a ≢ b → P false) → P (a == b)
on_equal P a b if_same if_other = by (a == b) refl
  where
    by : (t : Bool) → (a == b) ≡ t → P t
    by true h = if_same (eqb-true a b h)
    by false h = if_other (not_from_Decides (a == b) (Decides-eqb a b) h)

-- the coefficient of the first term's atom, where the others are above it
pub coefficient-below : (a : ℕ) (ts : List (ℤ × ℕ)) → AllAbove a ts → coefficient a ts ≡ pos 0
coefficient-below a [] h = refl
coefficient-below a (t ∷ ts) h =
    on_equal (λ b. ((if b then t.0 else pos 0) +ℤ coefficient a ts) ≡ pos 0) t.1 a
    (λ same. absurd (omega (arith, h.0)))
    (λ other. omega (arith, ints, coefficient-below a ts h.1))

-- the coefficient of the atom of the first term
pub coefficient-head : (t : ℤ × ℕ) (ts : List (ℤ × ℕ)) → AllAbove t.1 ts → coefficient t.1 (t ∷ ts) ≡ t.0
coefficient-head t ts h =
    on_equal (λ b. ((if b then t.0 else pos 0) +ℤ coefficient t.1 ts) ≡ t.0) t.1 t.1
    (λ same. omega (arith, ints, coefficient-below t.1 ts h))
    (λ other. absurd (other refl))

-- what is above a number is above a lower one
pub AllAbove-lower : (a b : ℕ) (ts : List (ℤ × ℕ)) → a ≤ b → AllAbove b ts → AllAbove a ts
AllAbove-lower a b [] le h = tt
AllAbove-lower a b (t ∷ ts) le h = (omega (arith, h.0), AllAbove-lower a b ts le h.1)

-- the coefficient of another atom is that in the rest
pub coefficient-other : (a : ℕ) (t : ℤ × ℕ) (ts : List (ℤ × ℕ)) → t.1 ≢ a → coefficient a (t ∷ ts) ≡ coefficient a ts
coefficient-other a t ts other =
    on_equal (λ b. ((if b then t.0 else pos 0) +ℤ coefficient a ts) ≡ coefficient a ts) t.1 a
    (λ same. absurd (other same))
    (λ _. omega (arith, ints))

-- equal heads leave equal coefficients behind
tails : (t : ℤ × ℕ) (xs : List (ℤ × ℕ)) (u : ℤ × ℕ) (ys : List (ℤ × ℕ)) → t.1 ≡ u.1 → AllAbove t.1 xs → AllAbove u.1 ys
    → ((a : ℕ) → coefficient a (t ∷ xs) ≡ coefficient a (u ∷ ys)) → (a : ℕ) → coefficient a xs ≡ coefficient a ys
tails t xs u ys e h k same a = by (eqb_tells t.1 a)
  where
    by : (((t.1 == a) ≡ true) × (t.1 ≡ a)) ⊎ (((t.1 == a) ≡ false) × (t.1 ≢ a)) → coefficient a xs ≡ coefficient a ys
    by (inl p) =
        coefficient-below a xs (AllAbove-lower a t.1 xs (omega (arith, p.1)) h)
        ∙ sym (coefficient-below a ys (AllAbove-lower a u.1 ys (omega (arith, p.1)) k))
    by (inr p) = sym (coefficient-other a t xs p.1) ∙ (same a ∙ coefficient-other a u ys (λ q. p.1 (e ∙ q)))

-- two lists of merged terms that give each atom the same coefficient are one
pub canonical : (xs ys : List (ℤ × ℕ)) → AreMerged xs → AreMerged ys → ((a : ℕ) → coefficient a xs ≡ coefficient a ys) → xs ≡ ys
canonical [] [] h k same = refl
canonical [] (u ∷ ys) h k same = absurd (k.0 (sym (coefficient-head u ys k.1) ∙ sym (same u.1)))
canonical (t ∷ xs) [] h k same = absurd (h.0 (sym (coefficient-head t xs h.1) ∙ same t.1))
canonical (t ∷ xs) (u ∷ ys) h k same = by (order t.1 u.1) (λ e. canonical xs ys h.2 k.2 (tails t xs u ys e h.1 k.1 same))
  where
    order : (a b : ℕ) → (a ≡ b) ⊎ ((a < b) ⊎ (b < a))
    order a b = grind arith

    below : (t : ℤ × ℕ) (xs : List (ℤ × ℕ)) (u : ℤ × ℕ) (ys : List (ℤ × ℕ)) → t.1 < u.1 → t.0 ≢ pos 0 → AllAbove t.1 xs → AllAbove u.1 ys
        → coefficient t.1 (t ∷ xs) ≡ coefficient t.1 (u ∷ ys) → ⊥
    below t xs u ys lt nonzero above more e =
        nonzero (sym (coefficient-head t xs above) ∙ (e ∙ coefficient-below t.1 (u ∷ ys) (lt, AllAbove-lower t.1 u.1 ys (omega arith) more)))

    same_lists : (t u : ℤ × ℕ) (xs ys : List (ℤ × ℕ)) → t.0 ≡ u.0 → t.1 ≡ u.1 → xs ≡ ys → (t ∷ xs) ≡ (u ∷ ys)
    same_lists t u xs ys p q r = ap (λ z. (z, t.1) ∷ xs) p ∙ (ap (λ a. (u.0, a) ∷ xs) q ∙ ap (λ zs. u ∷ zs) r)

    by : (t.1 ≡ u.1) ⊎ ((t.1 < u.1) ⊎ (u.1 < t.1)) → (t.1 ≡ u.1 → xs ≡ ys) → (t ∷ xs) ≡ (u ∷ ys)
    by (inl e) rest =
        same_lists t u xs ys (sym (coefficient-head t xs h.1) ∙ (same t.1 ∙ (ap (λ a. coefficient a (u ∷ ys)) e ∙ coefficient-head u ys k.1))) e (rest e)
    by (inr (inl lt)) rest = absurd (below t xs u ys lt h.0 h.1 k.1 (same t.1))
    by (inr (inr lt)) rest = absurd (below u ys t xs lt k.0 k.1 h.1 (sym (same u.1)))
