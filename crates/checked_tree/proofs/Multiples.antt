-- A sum whose constant and coefficients are multiples of a size is one.
use Rattle.std.proofs.Common.{◌≡◌, ℕ, zero, suc, ◌*◌, ◌<◌, Bool, true, false, ◌&&◌, IsTrue, List, [], ◌∷◌, ℤ, pos, negsuc, ◌+ℤ◌, ◌-ℤ◌, ◌*ℤ◌, int_div, int_rem, unsigned_abs, refl, sym, ap, ◌∙◌, arith}
use Rattle.std.proofs.Math.IntN.{zero-*ℤ, *ℤ_comm}
use Rattle.std.proofs.lemmas.Int.{ints, quot-rem, rem_below, unsigned_abs-mul}
use Rattle.std.proofs.lemmas.Bool.Decides.{Decides-int_eq}
use Rattle.std.proofs.lemmas.Nat.{mul-le}
use Rattle.std.specs.List.{list_all}
use Rattle.dep_expr.specs.Linear.{LinearForm, Assignment, terms_value, value_of}
use Rattle.dep_expr.proofs.Integers.{add-mul, mul_swap}
use Rattle.checked_tree.specs.Conditions.{is_multiple}

-- a number and what it is divided into
pub record Divided (z : ℤ) (size : ℕ) : Type 0 where
  pub quotient : ℤ
  pub is : z ≡ quotient *ℤ pos size

divided : (z : ℤ) (size : ℕ) → IsTrue (is_multiple z size) → Divided z size
divided z size h =
    let none : int_rem z (pos size) ≡ pos 0 = (Decides-int_eq (int_rem z (pos size)) (pos 0)).0 h in
    record { quotient = int_div z (pos size); is = omega (arith, ints, quot-rem z (pos size), none) }

-- nothing is left of a product
remainder : (q : ℤ) (size : ℕ) → int_rem (q *ℤ pos size) (pos size) ≡ pos 0
remainder q zero = ap (λ z. int_rem z (pos 0)) (*ℤ_comm q (pos 0) ∙ zero-*ℤ q)
remainder q (suc n) =
    let size = suc n in
    let p : ℤ = int_div (q *ℤ pos size) (pos size) in
    let r : ℤ = int_rem (q *ℤ pos size) (pos size) in
    let whole : p *ℤ pos size +ℤ r ≡ q *ℤ pos size = quot-rem (q *ℤ pos size) (pos size) in
    let less : unsigned_abs r < size = rem_below (q *ℤ pos size) (pos size) (omega arith) in
    let is : r ≡ (q -ℤ p) *ℤ pos size = omega (arith, ints, whole, differs q p (pos size)) in
    let sized : unsigned_abs r ≡ unsigned_abs (q -ℤ p) * size = ap unsigned_abs is ∙ unsigned_abs-mul (q -ℤ p) (pos size) in
    none (unsigned_abs (q -ℤ p)) r size sized less
  where
    differs : (a b c : ℤ) → (a -ℤ b) *ℤ c ≡ (a *ℤ c) -ℤ (b *ℤ c)
    differs a b c = omega (arith, ints, add-mul (a -ℤ b) b c, same a b c)
      where
        same : (a b c : ℤ) → ((a -ℤ b) +ℤ b) *ℤ c ≡ a *ℤ c
        same a b c = let e : (a -ℤ b) +ℤ b ≡ a = omega (arith, ints) in ap (λ z. z *ℤ c) e

    small : (z : ℤ) → unsigned_abs z ≡ 0 → z ≡ pos 0
    small (pos m) h = ap pos h
    small (negsuc m) h = absurd (omega (arith, h))

    none : (d : ℕ) (z : ℤ) (size : ℕ) → unsigned_abs z ≡ d * size → unsigned_abs z < size → z ≡ pos 0
    none zero z size h l = small z (omega (arith, h))
    none (suc d) z size h l = absurd (omega (arith, h, l, mul-le 1 size (suc d) size (omega arith) (omega arith)))

multiple : (z : ℤ) (size : ℕ) → Divided z size → IsTrue (is_multiple z size)
multiple z size d = (Decides-int_eq (int_rem z (pos size)) (pos 0)).1 (ap (λ x. int_rem x (pos size)) d.is ∙ remainder d.quotient size)

divided_terms : (ts : List (ℤ × ℕ)) (size : ℕ) (at : Assignment) → IsTrue (list_all (λ t. is_multiple t.0 size) ts) → Divided (terms_value ts at) size
divided_terms [] size at h = record { quotient = pos 0; is = sym (zero-*ℤ (pos size)) }
divided_terms (t ∷ ts) size at h =
    let p = and_true (is_multiple t.0 size) (list_all (λ t. is_multiple t.0 size) ts) h in
    let a = divided t.0 size p.0 in
    let b = divided_terms ts size at p.1 in
    record {
      quotient = a.quotient *ℤ at t.1 +ℤ b.quotient;
      is = omega (arith, ints, add-mul (a.quotient *ℤ at t.1) b.quotient (pos size), mul_swap a.quotient (at t.1) (pos size), ap (λ z. z *ℤ at t.1) a.is, b.is);
    }
  where
    and_true : (a b : Bool) → IsTrue (a && b) → IsTrue a × IsTrue b
    and_true true b h = (refl, h)
    and_true false b h = absurd cc

-- the value of such a form is a multiple
pub multiple_value : (l : LinearForm) (size : ℕ) (at : Assignment)
    → IsTrue (list_all (λ t. is_multiple t.0 size) l.terms) → IsTrue (is_multiple l.constant size) → IsTrue (is_multiple (value_of l at) size)
unfolding value_of
multiple_value l size at h k =
    let a = divided_terms l.terms size at h in
    let b = divided l.constant size k in
    multiple (terms_value l.terms at +ℤ l.constant) size
    (record { quotient = a.quotient +ℤ b.quotient; is = omega (arith, ints, add-mul a.quotient b.quotient (pos size), a.is, b.is) })
