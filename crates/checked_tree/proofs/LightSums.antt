-- Light sums have values: by weight, no sum on the way passes the limit.
use Rattle.std.proofs.Common.{◌≡◌, ℕ, ◌+◌, ◌*◌, ◌^◌, ◌<◌, ◌≤◌, IsTrue, List, [], ◌∷◌, ℤ, pos, negsuc, ◌+ℤ◌, ◌*ℤ◌, unsigned_abs, Ok, slice_get, refl, sym, ap, subst, ◌∙◌, arith}
use Rattle.std.proofs.lemmas.Int.{ints, unsigned_abs-mul}
use Rattle.std.proofs.lemmas.Nat.{mul-le}
use Rattle.dep_expr.specs.Linear.{LinearForm, value_of}
use Rattle.dep_expr.specs.Weight.{weight}
use Rattle.dep_expr.proofs.Weights.{abs-add}
use Rattle.checked_tree.specs.declared.expressions.CheckedExpr.{CheckedExpr}
use Rattle.checked_tree.specs.declared.sums.Part.{Part}
use Rattle.checked_tree.specs.declared.sums.Part.TheVariants.{Constant, Atom}
use Rattle.checked_tree.specs.declared.sums.Sum.{Sum}
use Rattle.checked_tree.specs.Outcome.{Got, ◌>>=◌}
use Rattle.checked_tree.specs.Numbers.{is_value, sum_limit, limited}
use Rattle.checked_tree.specs.Conditions.{State, peek, atom_value}
use Rattle.checked_tree.specs.Operands.{part_value, parts_from, sum_value}
use Rattle.checked_tree.specs.Known.{number_or_zero, atom_numbers}
use Rattle.checked_tree.specs.Light.{HasWord, HaveWords, PartHasWord, PartsHaveWords, reach, reach_of, LightFormsHaveValues, LightSumsHaveValues}
use Rattle.checked_tree.proofs.FormValues.{HaveNumbers, StayLimited, limited_is, form_value-numbers}

-- a number of 32 bits is at most 2^32 from 0
word_size : (z : ℤ) → IsTrue (is_value z) → unsigned_abs z ≤ 2 ^ 32
word_size (pos m) h = grind (arith, ints)
word_size (negsuc m) h = grind (arith, ints)

has_number : (r : Got) → HasWord r → r ≡ Ok (number_or_zero r)
has_number r h = h.1 ∙ sym (ap (λ (g : Got). Ok (number_or_zero g)) h.1)

number_size : (r : Got) → HasWord r → unsigned_abs (number_or_zero r) ≤ 2 ^ 32
number_size r h = subst (λ (z : ℤ). unsigned_abs z ≤ 2 ^ 32) (sym (ap number_or_zero h.1)) (word_size h.0 h.2)

module _ (atoms : List CheckedExpr) (s : State) where
  have_numbers : (ts : List (ℤ × ℕ)) → HaveWords atoms s ts → HaveNumbers atoms s (atom_numbers atoms s) ts
  have_numbers [] h = tt
  have_numbers (t ∷ ts) h = (has_number (atom_value s (slice_get atoms t.1)) h.0, have_numbers ts h.1)

  stay_limited : (ts : List (ℤ × ℕ)) (sum : ℤ) → HaveWords atoms s ts → unsigned_abs sum + weight ts * 2 ^ 32 < 2 ^ 126 → StayLimited (atom_numbers atoms s) ts sum
  stay_limited [] sum h l = tt
  stay_limited (t ∷ ts) sum h l =
      let z : ℤ = atom_numbers atoms s t.1 in
      let a = abs-add sum (t.0 *ℤ z) in
      let m = unsigned_abs-mul t.0 z in
      let n : unsigned_abs t.0 * unsigned_abs z ≤ unsigned_abs t.0 * 2 ^ 32 = mul-le (unsigned_abs t.0) (unsigned_abs z) (unsigned_abs t.0) (2 ^ 32) (omega arith) (number_size (atom_value s (slice_get atoms t.1)) h.0) in
      (omega (arith, a, m, n, l), stay_limited ts (sum +ℤ (t.0 *ℤ z)) h.1 (omega (arith, a, m, n, l)))

pub light_forms : LightFormsHaveValues
light_forms atoms s l below h =
    form_value-numbers atoms s (atom_numbers atoms s) l (have_numbers atoms s l.terms h) (omega (arith, below)) (stay_limited atoms s l.terms l.constant h below)

module _ (s : State) where
  -- a part that has a value, which is no further from 0 than the part reaches
  pub record HasPart (p : Part) : Type 0 where
    pub number : ℤ
    pub is : part_value s p ≡ Ok number
    pub size : unsigned_abs number ≤ reach p

  has_part : (p : Part) → PartHasWord s p → HasPart p
  has_part (Constant times value) h = record { number = times *ℤ value; is = refl; size = omega (arith, unsigned_abs-mul times value) }
  has_part (Atom times atom) h = record {
    number = times *ℤ h.0;
    is = ap (λ (g : Got). g >>= λ v. Ok (times *ℤ v)) h.1;
    size = omega (arith, unsigned_abs-mul times h.0, mul-le (unsigned_abs times) (unsigned_abs h.0) (unsigned_abs times) (2 ^ 32) (omega arith) (word_size h.0 h.2));
  }

  parts_value : (ps : List Part) (sum : ℤ) → unsigned_abs sum + reach_of ps < sum_limit → PartsHaveWords s ps → (v : ℤ) × (parts_from s ps sum ≡ Ok v)
  parts_value [] sum l h = (sum, refl)
  parts_value (p ∷ ps) sum l h =
      let x = has_part p h.0 in
      let a = abs-add sum x.number in
      let below : unsigned_abs (sum +ℤ x.number) + reach_of ps < sum_limit = omega (arith, a, x.size, l) in
      let more = parts_value ps (sum +ℤ x.number) below h.1 in (
        more.0,
        ap (λ (g : Got). g >>= λ v. limited (sum +ℤ v) >>= λ next. parts_from s ps next) x.is
            ∙ (ap (λ (g : Got). g >>= λ next. parts_from s ps next) (limited_is (sum +ℤ x.number) (omega (arith, below))) ∙ more.1),
      )

pub light_sums : LightSumsHaveValues
unfolding sum_value
light_sums s l below h = parts_value s l.parts (pos 0) (omega (arith, below)) h
