-- A converted value in a check.
use Rattle.std.proofs.Common.{◌≡◌, ◌≢◌, IsTrue, Bool, true, false, [], ℤ, pos}
use Rattle.std.proofs.Common.{Option, Some, None, Ok, if◌then◌else◌, refl, sym, ap, ◌∙◌, subst, arith}
use Rattle.std.proofs.lemmas.Int.{ints}
use Rattle.std.proofs.Math.IntN.{*ℤ_comm}
use Rattle.checked_tree.specs.declared.expressions.CheckedExpr.{CheckedExpr}
use Rattle.checked_tree.specs.declared.expressions.CheckedExpr.TheVariants as form
use Rattle.checked_tree.specs.declared.expressions.Unary.TheVariants.{Cast}
use Rattle.checked_tree.specs.declared.shapes.Scalar.{Scalar}
use Rattle.checked_tree.specs.declared.shapes.Scalar.TheVariants.{Void}
use Rattle.checked_tree.specs.declared.units.CheckedFn.{CheckedFn}
use Rattle.checked_tree.specs.Numbers.{converted, is_value, unary}
use Rattle.checked_tree.specs.Outcome.{Got, ◌>>=◌}
use Rattle.checked_tree.specs.Conditions.{State, peek, eval_level}
use Rattle.checked_tree.specs.Eval.{eval}
use Rattle.checked_tree.proofs.Equations.{at-Unary}
use Rattle.deputy_rules.specs.declared.derived.Whole.{Whole}
use Rattle.deputy_rules.specs.Coercion.{side_by as converted_by, converted_side, cast_part}
use Rattle.deputy_rules.specs.Sums.{side, side_by, constant_of, constant_part, atom_part, sum_of}
use Rattle.deputy_rules.specs.SumValues.{part_at, HasValue}
use Rattle.driver_safety.specs.Derivations.{IsWhole}
use Rattle.deputy_rules.specs.NameValues.{IsOnce, AreOnce}
use Rattle.checked_tree.proofs.NumberRanges.{of_value, converted_of}
use Rattle.checked_tree.proofs.Peeking.{eval_peek}
use Rattle.deputy_rules.proofs.SumsHave.{atom_is, atom_reads, has_part}
use Rattle.checked_tree.specs.Numbers.{has_all}
use Rattle.checked_tree.proofs.Conversions.{converted_same, wider}

module _ (f : CheckedFn) (st : State) where
  cast_peeks : (s : Scalar) (e : CheckedExpr) (z : ℤ) → peek st e ≡ Ok z → peek st (form.Unary Cast s e) ≡ Ok (converted s z)
  unfolding peek unary
  cast_peeks s e z h = at-Unary Got (eval_level (λ _. Ok tt) st) Cast s e ∙ ap (λ (g : Got). g >>= λ x. Ok (converted s x)) h

  -- an integer that is converted to a type, in a check
  pub converted_has : (s : Scalar) (w : Whole) (z : ℤ) → s ≢ Void → eval [] f st w.form ≡ Ok z → IsWhole st w z
      → HasValue st (sum_of (converted_side s w)) (converted s z)
  unfolding converted_side side
  converted_has s w z n h is = by (constant_of w.written) refl
    where
      seen : peek st w.form ≡ Ok z
      seen = eval_peek [] f st w.form z h

      word : IsTrue (is_value (converted s z))
      word = of_value s (converted s z) (converted_of s z n)

      plain : (b : Bool) → has_all s w.scalar ≡ b → HasValue st (sum_of (if b then atom_part w.form else cast_part s w.form))
          (converted s z)
      plain true e =
          let same = converted_same s z (wider s w.scalar z e is.range) in
          subst (λ (x : ℤ). HasValue st (sum_of (atom_part w.form)) x) (sym same) (has_part st (atom_part w.form) z
          (atom_reads st w.form z seen (of_value w.scalar z is.range)) (atom_is st w.form z seen))
      plain false e = has_part st (cast_part s w.form) (converted s z) (atom_reads st (form.Unary Cast s w.form) (converted s z)
          (cast_peeks s w.form z seen) word) (atom_is st (form.Unary Cast s w.form) (converted s z) (cast_peeks s w.form z seen))

      number : (c : ℤ) → part_at st (side_by (Some c) w.form) ≡ z → c ≡ z
      number c e = omega (arith, ints, *ℤ_comm (pos 1) c, e)

      by : (o : Option ℤ) → constant_of w.written ≡ o → HasValue st (sum_of (converted_by o s w)) (converted s z)
      by None e = plain (has_all s w.scalar) refl
      by (Some c) e =
          let same : c ≡ z = number c (subst (λ (o : Option ℤ). part_at st (side_by o w.form) ≡ z) e is.is) in
          has_part st (constant_part (converted s c)) (converted s z) tt (omega (arith, ints, *ℤ_comm (pos 1) (converted s c))
          ∙ ap (converted s) same)

  once_by : (o : Option ℤ) (s : Scalar) (w : Whole) → IsOnce (converted_by o s w)
  once_by (Some c) s w = refl
  once_by None s w = by (has_all s w.scalar)
    where
      by : (b : Bool) → IsOnce (if b then atom_part w.form else cast_part s w.form)
      by true = refl
      by false = refl

  pub converted_once : (s : Scalar) (w : Whole) → AreOnce (sum_of (converted_side s w)).parts
  unfolding converted_side
  converted_once s w = (once_by (constant_of w.written) s w, tt)
