-- A small form, and a light sum, have the value that they have where nothing is limited: over numbers of 32 bits no sum on the way reaches the limit.
use Rattle.std.proofs.Common.{◌≡◌, ℕ, ◌+◌, ◌*◌, ◌<◌, ◌≤◌, ◌^◌, IsTrue, Bool, List, [], ◌∷◌, ℤ, pos, ◌+ℤ◌, ◌*ℤ◌, unsigned_abs, Ok, Err, slice_get, if◌then◌else◌, refl, ap, ◌∙◌, arith}
use Rattle.std.proofs.lemmas.Bool.{lt-ltb}
use Rattle.std.proofs.lemmas.Int.{ints, unsigned_abs-mul}
use Rattle.std.proofs.lemmas.Nat.{mul-le}
use Rattle.dep_expr.specs.Linear.{LinearForm}
use Rattle.dep_expr.specs.Weight.{weight}
use Rattle.dep_expr.proofs.Weights.{abs-add}
use Rattle.checked_tree.specs.declared.expressions.CheckedExpr.{CheckedExpr}
use Rattle.checked_tree.specs.declared.stops.Stop.TheVariants.{Wild}
use Rattle.checked_tree.specs.declared.sums.Part.{Part}
use Rattle.checked_tree.specs.declared.sums.Part.TheVariants.{Constant, Atom}
use Rattle.checked_tree.specs.declared.sums.Sum.{Sum}
use Rattle.checked_tree.specs.Outcome.{Got, ◌>>=◌}
use Rattle.checked_tree.specs.Numbers.{is_value, sum_limit, limited}
use Rattle.checked_tree.specs.Conditions.{State, peek, atom_value, sum_from, form_value}
use Rattle.checked_tree.specs.Operands.{parts_from, sum_value}
use Rattle.light_checks.specs.Lightness.{factors, constants, IsLight}
use Rattle.light_checks.specs.SumLimits.{IsSmallForm, AtomsFit, PartsFit, free_from, free_form_value, free_parts_from, free_sum_value}

value_small : (v : ℤ) → IsTrue (is_value v) → unsigned_abs v ≤ 2 ^ 32
value_small v h = grind (arith, ints)

-- a number below the limit is left as it is
below_limit : (z : ℤ) → unsigned_abs z < 2 ^ 126 → limited z ≡ Ok z
below_limit z l = ap (λ (b : Bool). if b then Ok z else Err Wild) (lt-ltb (unsigned_abs z) sum_limit l)

-- so many times a number of 32 bits
times_size : (k v : ℤ) → unsigned_abs v ≤ 2 ^ 32 → unsigned_abs (k *ℤ v) ≤ unsigned_abs k * 2 ^ 32
times_size k v h = omega (arith, unsigned_abs-mul k v, mul-le (unsigned_abs k) (unsigned_abs v) (unsigned_abs k) (2 ^ 32) (omega arith) h)

module _ (atoms : List CheckedExpr) (s : State) (fit : AtomsFit atoms s) where
  terms_free : (ts : List (ℤ × ℕ)) (sum : ℤ) → unsigned_abs sum + weight ts * 2 ^ 32 < 2 ^ 126 → sum_from atoms s ts sum ≡ free_from atoms s ts sum
  terms_free [] sum h = refl
  terms_free (t ∷ ts) sum h = by (atom_value s (slice_get atoms t.1)) refl (λ next room. terms_free ts next room)
    where
      by : (g : Got) → atom_value s (slice_get atoms t.1) ≡ g
          → ((next : ℤ) → unsigned_abs next + weight ts * 2 ^ 32 < 2 ^ 126 → sum_from atoms s ts next ≡ free_from atoms s ts next)
          → (g >>= λ v. limited (sum +ℤ (t.0 *ℤ v)) >>= λ next. sum_from atoms s ts next) ≡ (g >>= λ v. free_from atoms s ts (sum +ℤ (t.0 *ℤ v)))
      by (Err e) k more = refl
      by (Ok v) k more =
          let next : ℤ = sum +ℤ (t.0 *ℤ v) in
          let size = times_size t.0 v (value_small v (fit t.1 v k)) in
          let grown = abs-add sum (t.0 *ℤ v) in
          let here : unsigned_abs next < 2 ^ 126 = omega arith in
          let rest : unsigned_abs next + weight ts * 2 ^ 32 < 2 ^ 126 = omega arith in
          ap (λ (g : Got). g >>= λ n. sum_from atoms s ts n) (below_limit next here) ∙ more next rest

  pub form_free : (l : LinearForm) → IsSmallForm l → form_value atoms s l ≡ free_form_value atoms s l
  unfolding form_value
  form_free l small =
      let c = small.constant in
      let w = small.coefficients in
      let here : unsigned_abs l.constant < 2 ^ 126 = omega arith in
      ap (λ (g : Got). g >>= λ first. sum_from atoms s l.terms first) (below_limit l.constant here) ∙ terms_free l.terms l.constant (omega arith)

module _ (s : State) where
  parts_free : (ps : List Part) (sum : ℤ) → PartsFit s ps → unsigned_abs sum + constants ps + factors ps * 2 ^ 32 < 2 ^ 126 → parts_from s ps sum ≡ free_parts_from s ps sum
  parts_free [] sum fit h = refl
  parts_free (Constant k z ∷ ps) sum fit h =
      let next : ℤ = sum +ℤ (k *ℤ z) in
      let grown = abs-add sum (k *ℤ z) in
      let here : unsigned_abs next < 2 ^ 126 = omega arith in
      let rest : unsigned_abs next + constants ps + factors ps * 2 ^ 32 < 2 ^ 126 = omega arith in
      ap (λ (g : Got). g >>= λ n. parts_from s ps n) (below_limit next here) ∙ parts_free ps next fit.1 rest
  parts_free (Atom k e ∷ ps) sum fit h = by (peek s e) refl (λ next room. parts_free ps next fit.1 room)
    where
      by : (g : Got) → peek s e ≡ g
          → ((next : ℤ) → unsigned_abs next + constants ps + factors ps * 2 ^ 32 < 2 ^ 126 → parts_from s ps next ≡ free_parts_from s ps next)
          → ((g >>= λ v. Ok (k *ℤ v)) >>= λ v. limited (sum +ℤ v) >>= λ next. parts_from s ps next)
          ≡ ((g >>= λ v. Ok (k *ℤ v)) >>= λ v. free_parts_from s ps (sum +ℤ v))
      by (Err f) q more = refl
      by (Ok v) q more =
          let next : ℤ = sum +ℤ (k *ℤ v) in
          let size = times_size k v (value_small v (fit.0 v q)) in
          let grown = abs-add sum (k *ℤ v) in
          let here : unsigned_abs next < 2 ^ 126 = omega arith in
          let rest : unsigned_abs next + constants ps + factors ps * 2 ^ 32 < 2 ^ 126 = omega arith in
          ap (λ (g : Got). g >>= λ n. parts_from s ps n) (below_limit next here) ∙ more next rest

  pub sum_free : (l : Sum) → IsLight l → PartsFit s l.parts → sum_value s l ≡ free_sum_value s l
  unfolding sum_value
  sum_free l light fit =
      let f = light.factors in
      let c = light.constants in
      parts_free l.parts (pos 0) fit (omega arith)
