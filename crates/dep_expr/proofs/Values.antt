-- The values of sums, multiples and substitutions.
use Rattle.std.proofs.Common.{◌≡◌, ◌≢◌, ℕ, ◌+◌, ◌<◌, length, take, get_or, ◌==◌, Bool, true, false, List, [], ◌∷◌, ◌++◌, map, ℤ, ◌+ℤ◌, ◌*ℤ◌, arith, sym, ap, ◌∙◌, refl, if◌then◌else◌}
use Rattle.std.proofs.Math.IntN.{zero-*ℤ, *ℤ_comm}
use Rattle.std.proofs.lemmas.Int.{ints}
use Rattle.std.proofs.lemmas.List.{take_more}
use Rattle.dep_expr.proofs.Canonical.{on_equal}
use Rattle.dep_expr.proofs.Integers.{add-mul, mul_swap}
use Rattle.dep_expr.specs.Linear.{LinearForm, Assignment, terms_value, value_of, with_number, number_form, plus, scaled, scaled_term, term_form, part_of, plus_parts, substituted}

pub terms_value-append : (xs ys : List (ℤ × ℕ)) (at : Assignment) → terms_value (xs ++ ys) at ≡ terms_value xs at +ℤ terms_value ys at
terms_value-append [] ys at = omega (arith, ints)
terms_value-append (x ∷ xs) ys at = omega (arith, ints, terms_value-append xs ys at)

pub terms_value-scaled : (xs : List (ℤ × ℕ)) (by : ℤ) (at : Assignment) → terms_value (map (scaled_term by) xs) at ≡ terms_value xs at *ℤ by
terms_value-scaled [] by at = sym (zero-*ℤ by)
terms_value-scaled (x ∷ xs) by at =
    omega (arith, ints, mul_swap x.0 by (at x.1), add-mul (x.0 *ℤ at x.1) (terms_value xs at) by, terms_value-scaled xs by at)

pub value_of-plus : (l m : LinearForm) (at : Assignment) → value_of (plus l m) at ≡ value_of l at +ℤ value_of m at
unfolding value_of
value_of-plus l m at = omega (arith, ints, terms_value-append l.terms m.terms at)

pub value_of-scaled : (l : LinearForm) (by : ℤ) (at : Assignment) → value_of (scaled l by) at ≡ value_of l at *ℤ by
unfolding value_of
value_of-scaled l by at = omega (arith, ints, terms_value-scaled l.terms by at, add-mul (terms_value l.terms at) l.constant by)

-- what stands for a term has the value of the term where the atom has the new value
value_of-part : (a : ℕ) (by : LinearForm) (t : ℤ × ℕ) (at : Assignment) → value_of (part_of a by t) at ≡ t.0 *ℤ with_number at a (value_of by at) t.1
unfolding value_of
value_of-part a by t at = cases (t.1 == a)
  where
    cases : (b : Bool) → value_of (if b then scaled by t.0 else term_form t) at ≡ t.0 *ℤ (if b then value_of by at else at t.1)
    cases true = value_of-scaled by t.0 at ∙ *ℤ_comm (value_of by at) t.0
    cases false = omega (arith, ints)

value_of-plus_parts : (a : ℕ) (by sum : LinearForm) (ts : List (ℤ × ℕ)) (at : Assignment)
    → value_of (plus_parts a by sum ts) at ≡ value_of sum at +ℤ terms_value ts (with_number at a (value_of by at))
unfolding value_of
value_of-plus_parts a by sum [] at = omega (arith, ints)
value_of-plus_parts a by sum (t ∷ ts) at =
    omega (arith, ints, value_of-plus_parts a by (plus sum (part_of a by t)) ts at, value_of-plus sum (part_of a by t) at, value_of-part a by t at)

-- substitution: the value is that of the form where the atom has the value of what is put in its place
pub value_of-substituted : (l : LinearForm) (a : ℕ) (by : LinearForm) (at : Assignment)
    → value_of (substituted l a by) at ≡ value_of l (with_number at a (value_of by at))
unfolding value_of
value_of-substituted l a by at = omega (arith, ints, value_of-plus_parts a by (number_form l.constant) l.terms at)

-- the same, for a form that equals a sum, a multiple or a substitution
pub plus_value : (s l m : LinearForm) → s ≡ plus l m → (at : Assignment) → value_of s at ≡ value_of l at +ℤ value_of m at
plus_value s l m e at = ap (λ f. value_of f at) e ∙ value_of-plus l m at

pub scaled_value : (s l : LinearForm) (by : ℤ) → s ≡ scaled l by → (at : Assignment) → value_of s at ≡ value_of l at *ℤ by
scaled_value s l by e at = ap (λ f. value_of f at) e ∙ value_of-scaled l by at

pub substituted_value : (s l : LinearForm) (a : ℕ) (by : LinearForm) → s ≡ substituted l a by
    → (at : Assignment) → value_of s at ≡ value_of l (with_number at a (value_of by at))
substituted_value s l a by e at = ap (λ f. value_of f at) e ∙ value_of-substituted l a by at

-- what stands for a term, by its atom
pub part_of-same : (a : ℕ) (by : LinearForm) (t : ℤ × ℕ) → t.1 ≡ a → part_of a by t ≡ scaled by t.0
part_of-same a by t e = on_equal (λ b. (if b then scaled by t.0 else term_form t) ≡ scaled by t.0) t.1 a (λ _. refl) (λ n. absurd (n e))

pub part_of-other : (a : ℕ) (by : LinearForm) (t : ℤ × ℕ) → t.1 ≢ a → part_of a by t ≡ term_form t
part_of-other a by t n = on_equal (λ b. (if b then scaled by t.0 else term_form t) ≡ term_form t) t.1 a (λ e. absurd (n e)) (λ _. refl)

-- one part more
pub plus_parts-push : (a : ℕ) (by sum : LinearForm) (ts : List (ℤ × ℕ)) (t : ℤ × ℕ)
    → plus_parts a by sum (ts ++ t ∷ []) ≡ plus (plus_parts a by sum ts) (part_of a by t)
plus_parts-push a by sum [] t = refl
plus_parts-push a by sum (u ∷ us) t = plus_parts-push a by (plus sum (part_of a by u)) us t

pub plus_parts-more : (a : ℕ) (by sum : LinearForm) (ts : List (ℤ × ℕ)) (i : ℕ) (d : ℤ × ℕ) → i < length ts
    → plus_parts a by sum (take (i + 1) ts) ≡ plus (plus_parts a by sum (take i ts)) (part_of a by (get_or ts i d))
plus_parts-more a by sum ts i d lt = ap (plus_parts a by sum) (take_more ts i d lt) ∙ plus_parts-push a by sum (take i ts) (get_or ts i d)
