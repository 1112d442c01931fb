-- The bounds of a pointer that a statement takes with it: sums that stay below the machine's limit have the values that they have where
-- nothing is limited.
use Rattle.std.proofs.Common.{◌≡◌, ◌+◌, ◌^◌, ◌<◌, ◌≤◌, IsTrue, List, [], ◌∷◌, ℤ, pos, negsuc, ◌+ℤ◌, ◌*ℤ◌, unsigned_abs, Ok, refl}
use Rattle.std.proofs.Common.{sym, ap, subst, ◌∙◌, arith}
use Rattle.std.proofs.lemmas.Int.{ints, unsigned_abs-mul}
use Rattle.std.proofs.lemmas.Nat.{mul-le}
use Rattle.dep_expr.proofs.Weights.{abs-add}
use Rattle.checked_tree.specs.declared.sums.Part.{Part}
use Rattle.checked_tree.specs.declared.sums.Part.TheVariants.{Constant, Atom}
use Rattle.checked_tree.specs.declared.sums.Sum.{Sum}
use Rattle.checked_tree.specs.Conditions.{State}
use Rattle.checked_tree.specs.Light.{reach, reach_of}
use Rattle.checked_tree.specs.Numbers.{is_value, sum_limit, limited}
use Rattle.checked_tree.specs.Operands.{part_value, parts_from, sum_value}
use Rattle.checked_tree.specs.Outcome.{Got, ◌>>=◌}
use Rattle.checked_tree.proofs.FormValues.{limited_is}
use Rattle.deputy_rules.specs.SumValues.{got_or_zero, part_at, parts_at, PartHasValue, HaveValues, HasValue}

word_size : (z : ℤ) → IsTrue (is_value z) → unsigned_abs z ≤ 2 ^ 32
word_size (pos m) h = grind (arith, ints)
word_size (negsuc m) h = grind (arith, ints)

module _ (st : State) where
  -- a part that has a value, which is no further from 0 than the part reaches
  record IsPart (p : Part) : Type 0 where
    is : part_value st p ≡ Ok (part_at st p)
    size : unsigned_abs (part_at st p) ≤ reach p

  part_is : (p : Part) → PartHasValue st p → IsPart p
  part_is (Constant times value) h = record { is = refl; size = omega (arith, unsigned_abs-mul times value) }
  part_is (Atom times atom) h =
      let same : part_at st (Atom times atom) ≡ times *ℤ h.0 = ap (λ (g : Got). times *ℤ got_or_zero g) h.1 in
      record {
        is = ap (λ (g : Got). g >>= λ v. Ok (times *ℤ v)) h.1 ∙ ap (λ (z : ℤ). Ok z) (sym same);
        size = subst (λ (z : ℤ). unsigned_abs z ≤ reach (Atom times atom)) (sym same)
            (omega (
              arith,
              unsigned_abs-mul times h.0,
              mul-le (unsigned_abs times) (unsigned_abs h.0) (unsigned_abs times) (2 ^ 32)
                  (omega arith) (word_size h.0 h.2),
            ));
      }

  parts_are : (ps : List Part) (sum : ℤ) → unsigned_abs sum + reach_of ps < sum_limit → HaveValues st ps → parts_from st ps sum ≡ Ok
      (sum +ℤ parts_at st ps)
  unfolding parts_at
  parts_are [] sum l h = ap (λ (z : ℤ). Ok z) (none sum)
    where
      none : (z : ℤ) → z ≡ z +ℤ pos 0
      none z = omega (arith, ints)
  parts_are (p ∷ ps) sum l h =
      let x = part_is p h.0 in
      let a = abs-add sum (part_at st p) in
      let size = x.size in
      let below : unsigned_abs (sum +ℤ part_at st p) + reach_of ps < sum_limit = omega (arith, a, size, l) in
      ap (λ (g : Got). g >>= λ v. limited (sum +ℤ v) >>= λ next. parts_from st ps next) x.is
      ∙ ap (λ (g : Got). g >>= λ next. parts_from st ps next) (limited_is (sum +ℤ part_at st p) (omega (arith, below)))
      ∙ parts_are ps (sum +ℤ part_at st p) below h.1
      ∙ ap (λ (z : ℤ). Ok z) (regroup sum (part_at st p) (parts_at st ps))
    where
      regroup : (a b c : ℤ) → (a +ℤ b) +ℤ c ≡ a +ℤ (b +ℤ c)
      regroup a b c = omega (arith, ints)

  pub sum_is : (s : Sum) (z : ℤ) → reach_of s.parts < sum_limit → HasValue st s z → sum_value st s ≡ Ok z
  unfolding sum_value
  sum_is s z l h = parts_are s.parts (pos 0) (omega (arith, l)) h.read ∙ ap (λ (y : ℤ). Ok y) (first (parts_at st s.parts) ∙ h.is)
    where
      first : (y : ℤ) → pos 0 +ℤ y ≡ y
      first y = omega (arith, ints)
